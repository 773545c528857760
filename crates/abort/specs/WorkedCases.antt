-- A disconnection worked by hand, and computed by the definitions alone.
use Rattle.std.specs.Prelude.{Bool, ◌&&◌, not, List, [], ◌∷◌, ◌++◌, ℕ, ◌+◌, eqb, length, take, replicate, set}
use Rattle.octets.specs.Lists.{every}
use Rattle.octets.specs.Texts.{same}
use Rattle.octets.specs.Numbers.{in32}
use Rattle.message.specs.WritingTheAnswer.{avp_bytes}
use Rattle.message.specs.WorkedCases.{session, gateway, gateway_realm, own_host, own_realm, vendor_bytes}
use Rattle.abort.specs.TheDisconnection.{Cut, header, Left, write_abort, belongs}

-- A text in its room of 128 bytes, with a byte behind it up to the end.
unfoldable pub in_room : (tail : ℕ) → List ℕ → List ℕ
in_room tail s = take 128 (s ++ replicate 128 tail)

-- The notice of the Session-Id "s;a" at the gateway "gw" of the realm "gr", and its lengths.
unfoldable pub cut : (tail : ℕ) → Cut
cut tail =
    record {
      notice = in_room tail (session 97) ++ (in_room tail gateway ++ in_room tail gateway_realm);
      cut_session = 3;
      cut_host = 2;
      cut_realm = 2;
    }

-- The request for it from the host "aaa" of the realm "r", with the identifiers 7 and 9.
unfoldable pub by_hand : List ℕ
by_hand =
    0x01 ∷ 0x00 ∷ 0x00 ∷ 0x5C ∷ 0xC0 ∷ 0x00 ∷ 0x01 ∷ 0x12 ∷ 0x00 ∷ 0x00 ∷ 0x00 ∷ 0x01 ∷ 0x00 ∷ 0x00 ∷ 0x00 ∷ 0x07 ∷ 0x00 ∷ 0x00 ∷ 0x00 ∷ 0x09
    ∷ 0x00 ∷ 0x00 ∷ 0x01 ∷ 0x07 ∷ 0x40 ∷ 0x00 ∷ 0x00 ∷ 0x0B ∷ 0x73 ∷ 0x3B ∷ 0x61 ∷ 0x00
    ∷ 0x00 ∷ 0x00 ∷ 0x01 ∷ 0x08 ∷ 0x40 ∷ 0x00 ∷ 0x00 ∷ 0x0B ∷ 0x61 ∷ 0x61 ∷ 0x61 ∷ 0x00
    ∷ 0x00 ∷ 0x00 ∷ 0x01 ∷ 0x28 ∷ 0x40 ∷ 0x00 ∷ 0x00 ∷ 0x09 ∷ 0x72 ∷ 0x00 ∷ 0x00 ∷ 0x00
    ∷ 0x00 ∷ 0x00 ∷ 0x01 ∷ 0x1B ∷ 0x40 ∷ 0x00 ∷ 0x00 ∷ 0x0A ∷ 0x67 ∷ 0x72 ∷ 0x00 ∷ 0x00
    ∷ 0x00 ∷ 0x00 ∷ 0x01 ∷ 0x25 ∷ 0x40 ∷ 0x00 ∷ 0x00 ∷ 0x0A ∷ 0x67 ∷ 0x77 ∷ 0x00 ∷ 0x00
    ∷ 0x00 ∷ 0x00 ∷ 0x01 ∷ 0x02 ∷ 0x40 ∷ 0x00 ∷ 0x00 ∷ 0x0C ∷ 0x00 ∷ 0x00 ∷ 0x00 ∷ 0x01
    ∷ []

-- A room of n bytes.
unfoldable pub room_of : ℕ → List ℕ
room_of n = replicate n 5

-- It is written whatever stands behind the texts in the notice, and the rest of the room stays.
unfoldable pub is_written : Left → Bool
is_written l = eqb l.number 0 && (eqb l.size 92 && same l.room (by_hand ++ room_of 932))

unfoldable pub the_request : Bool
the_request = is_written (write_abort own_host own_realm (cut 0) 7 9 (room_of 1024)) && is_written (write_abort own_host own_realm (cut 255) 7 9 (room_of 1024))

-- A refusal by its number, with nothing written.
unfoldable pub refused_by : (number : ℕ) → (host realm : List ℕ) → Cut → (size : ℕ) → Bool
refused_by number host realm c size =
    let l : Left = write_abort host realm c 7 9 (room_of size) in
    eqb l.number number && (eqb l.size 0 && same l.room (room_of size))

-- A notice of n bytes with other lengths beside it.
unfoldable pub lent : (n cut_session cut_host cut_realm : ℕ) → Cut
lent n cut_session cut_host cut_realm = record { notice = room_of n; cut_session = cut_session; cut_host = cut_host; cut_realm = cut_realm }

-- Names of 0 and of 129 bytes, a notice of 383, lengths of 0 and of 129, a room of 1,023, and each before the next.
unfoldable pub the_numbers : Bool
the_numbers =
    refused_by 2 [] own_realm (lent 383 0 1 1) 9
    && (refused_by 2 (room_of 129) own_realm (lent 384 1 1 1) 1024
    && (refused_by 2 own_host [] (lent 384 1 1 1) 1024
    && (refused_by 2 own_host (room_of 129) (lent 384 1 1 1) 1024
    && (refused_by 4 own_host own_realm (lent 383 0 1 1) 9
    && (refused_by 22 own_host own_realm (lent 384 0 1 1) 9
    && (refused_by 22 own_host own_realm (lent 384 129 1 1) 1024
    && (refused_by 22 own_host own_realm (lent 384 1 0 1) 1024
    && (refused_by 22 own_host own_realm (lent 384 1 129 1) 1024
    && (refused_by 22 own_host own_realm (lent 384 1 1 0) 1024
    && (refused_by 22 own_host own_realm (lent 384 1 1 129) 1024 && refused_by 23 own_host own_realm (lent 384 128 128 128) 1023))))))))))

-- An answer with these AVPs, to the identifiers 7 and 9, and whether it belongs to the request above.
unfoldable pub reply : List ℕ → List ℕ
reply avps = header (20 + length avps) 64 274 7 9 ++ avps

unfoldable pub is_ours : List ℕ → Bool
is_ours answer = belongs answer (session 97) 7 9

abbrev pub sid : List ℕ
sid = avp_bytes 263 (session 97)

abbrev pub result : List ℕ
result = avp_bytes 268 (in32 2001)

unfoldable pub usual : List ℕ
usual = reply (sid ++ (result ++ (avp_bytes 264 gateway ++ avp_bytes 296 gateway_realm)))

-- These belong: with any flags but R, any Application-Id and any Result-Code; the Result-Code last; with AVPs that are not known and have
-- M; with a Session-Id and a Result-Code of a vendor beside ours; a Session-Id of no bytes to a request with none.
unfoldable pub they_belong : Bool
they_belong =
    every is_ours
    (usual
    ∷ set usual 4 0
    ∷ set usual 4 127
    ∷ set usual 11 0
    ∷ reply (sid ++ avp_bytes 268 (in32 0))
    ∷ reply (sid ++ (avp_bytes 264 gateway ++ (avp_bytes 33 gateway ++ (vendor_bytes 10415 100 gateway ++ result))))
    ∷ reply (sid ++ (vendor_bytes 9 263 gateway ++ (result ++ vendor_bytes 9 268 (in32 5))))
    ∷ [])
    && belongs (reply (avp_bytes 263 [] ++ result)) [] 7 9

-- These do not: with R; of another version, a wrong length, another command, other identifiers or ours the wrong way round; with a Session-Id
-- that stands twice, second, or not at all, that has V, or that is another one, longer or shorter; with two Result-Codes, none, one of 8
-- bytes, one with V or an Experimental-Result in its place; and where an AVP fails a test of the walk.
unfoldable pub they_do_not : Bool
they_do_not =
    every (λ answer. not (is_ours answer))
    (set usual 4 192
    ∷ set usual 0 2
    ∷ set usual 3 64
    ∷ set usual 7 19
    ∷ set usual 15 8
    ∷ set usual 19 8
    ∷ set (set usual 15 9) 19 7
    ∷ reply (sid ++ (sid ++ result))
    ∷ reply (sid ++ (result ++ avp_bytes 263 gateway))
    ∷ reply (result ++ sid)
    ∷ reply result
    ∷ reply (vendor_bytes 9 263 (session 97) ++ result)
    ∷ reply (avp_bytes 263 (session 98) ++ result)
    ∷ reply (avp_bytes 263 (session 97 ++ (0 ∷ [])) ++ result)
    ∷ reply (avp_bytes 263 (115 ∷ 59 ∷ []) ++ result)
    ∷ reply (sid ++ (result ++ result))
    ∷ reply sid
    ∷ reply (sid ++ avp_bytes 268 (in32 0 ++ in32 2001))
    ∷ reply (sid ++ vendor_bytes 9 268 (in32 2001))
    ∷ reply (sid ++ avp_bytes 297 (in32 2001))
    ∷ reply (sid ++ (result ++ (0 ∷ 0 ∷ 0 ∷ 1 ∷ [])))
    ∷ reply (sid ++ (result ++ (0 ∷ 0 ∷ 1 ∷ 8 ∷ 65 ∷ 0 ∷ 0 ∷ 8 ∷ [])))
    ∷ [])
