-- Reading a message (RFC 3588).
use Rattle.std.specs.Prelude.{Bool, true, false, ◌&&◌, ◌||◌, not, List, [], ◌∷◌, ◌++◌, map, ℕ, zero, suc, ◌-◌, ◌/◌, ◌%◌, eqb, leb, length, get_or, take, drop}
use Rattle.octets.specs.Choice.{pick, require, first_of, within}
use Rattle.octets.specs.Lists.{keep}
use Rattle.octets.specs.Texts.{part}
use Rattle.octets.specs.Numbers.{net24, net32, up4}

-- THE HEADER

-- Byte 4 has the command flags R P E T and four reserved bits, bytes 5 to 7 the command,
-- bytes 8 to 11 the Application-Id.
abbrev pub flags : List ℕ → ℕ
flags m = get_or m 4 0

abbrev pub command : List ℕ → ℕ
command m = net24 m 5

abbrev pub application : List ℕ → ℕ
application m = net32 m 8

-- In order: no reserved bit is set, else 5013; E is clear, else 3008; the command is 265 or 275, else 3001;
-- the Application-Id is 1, or for 275 it may be 0, else 3007.
unfoldable pub header_code : List ℕ → ℕ
header_code m =
    first_of
    (require (eqb (flags m % 16) 0) 5013
    ∷ require (eqb (flags m / 32 % 2) 0) 3008
    ∷ require (eqb (command m) 265 || eqb (command m) 275) 3001
    ∷ require (eqb (application m) 1 || (eqb (command m) 275 && eqb (application m) 0)) 3007
    ∷ [])

-- THE NAMES

-- What an AVP is known by: its code, its V bit and its vendor together.
pub data Name : Type 0 where
  -- V is clear: the code
  base : ℕ → Name
  -- V is set: the vendor and the code
  vendor : ℕ → ℕ → Name

unfoldable pub same_name : Name → Name → Bool
same_name (base c) (base d) = eqb c d
same_name (base c) (vendor w d) = false
same_name (vendor v c) (base d) = false
same_name (vendor v c) (vendor w d) = eqb v w && eqb c d

-- Those of RFC 3588, and those of 3GPP, whose vendor is 10415.
abbrev pub session_id : Name
session_id = base 263

abbrev pub auth_application_id : Name
auth_application_id = base 258

abbrev pub origin_host : Name
origin_host = base 264

abbrev pub origin_realm : Name
origin_realm = base 296

abbrev pub destination_realm : Name
destination_realm = base 283

abbrev pub auth_request_type : Name
auth_request_type = base 274

abbrev pub destination_host : Name
destination_host = base 293

abbrev pub user_name : Name
user_name = base 1

abbrev pub termination_cause : Name
termination_cause = base 295

abbrev pub proxy_info : Name
proxy_info = base 284

abbrev pub visited_network : Name
visited_network = vendor 10415 600

abbrev pub session_request_type : Name
session_request_type = vendor 10415 311

abbrev pub wlan_apn_id : Name
wlan_apn_id = vendor 10415 100

abbrev pub routing_policy : Name
routing_policy = vendor 10415 312

-- KNOWN AVPS (W1)

-- Those that document 01 names, in requests or in answers.
unfoldable pub named_in01 : List Name
named_in01 =
    session_id
    ∷ auth_application_id
    ∷ origin_host
    ∷ origin_realm
    ∷ destination_realm
    ∷ auth_request_type
    ∷ destination_host
    ∷ user_name
    ∷ termination_cause
    ∷ proxy_info
    ∷ visited_network
    ∷ session_request_type
    ∷ wlan_apn_id
    ∷ routing_policy
    ∷ base 266  -- Vendor-Id
    ∷ base 268  -- Result-Code
    ∷ base 279  -- Failed-AVP
    ∷ base 297  -- Experimental-Result
    ∷ base 298  -- Experimental-Result-Code
    ∷ base 443  -- Subscription-Id
    ∷ base 444  -- Subscription-Id-Data
    ∷ base 450  -- Subscription-Id-Type
    ∷ vendor 10415 304  -- Charging-Data
    ∷ []

-- Those that the grammar of AA-Request for Wm has beside them, in its order, none with V.
unfoldable pub codes_of_aa_request : List ℕ
codes_of_aa_request =
    578  -- QoS-Capability
    ∷ 32  -- NAS-Identifier
    ∷ 4  -- NAS-IP-Address
    ∷ 95  -- NAS-IPv6-Address
    ∷ 5  -- NAS-Port
    ∷ 87  -- NAS-Port-Id
    ∷ 61  -- NAS-Port-Type
    ∷ 278  -- Origin-State-Id
    ∷ 62  -- Port-Limit
    ∷ 2  -- User-Password
    ∷ 6  -- Service-Type
    ∷ 24  -- State
    ∷ 291  -- Authorization-Lifetime
    ∷ 276  -- Auth-Grace-Period
    ∷ 277  -- Auth-Session-State
    ∷ 19  -- Callback-Number
    ∷ 30  -- Called-Station-Id
    ∷ 31  -- Calling-Station-Id
    ∷ 94  -- Originating-Line-Info
    ∷ 77  -- Connect-Info
    ∷ 402  -- CHAP-Auth
    ∷ 60  -- CHAP-Challenge
    ∷ 13  -- Framed-Compression
    ∷ 96  -- Framed-Interface-Id
    ∷ 8  -- Framed-IP-Address
    ∷ 9  -- Framed-IP-Netmask
    ∷ 12  -- Framed-MTU
    ∷ 7  -- Framed-Protocol
    ∷ 70  -- ARAP-Password
    ∷ 73  -- ARAP-Security
    ∷ 74  -- ARAP-Security-Data
    ∷ 14  -- Login-IP-Host
    ∷ 98  -- Login-IPv6-Host
    ∷ 36  -- Login-LAT-Group
    ∷ 35  -- Login-LAT-Node
    ∷ 63  -- Login-LAT-Port
    ∷ 34  -- Login-LAT-Service
    ∷ 401  -- Tunneling
    ∷ 282  -- Route-Record
    ∷ []

-- The one that the grammar of Session-Termination-Request has beside all of these: Class.
unfoldable pub codes_of_termination : List ℕ
codes_of_termination =
    25  -- Class
    ∷ []

-- And the one that a Re-Auth-Request has beside them (W11): Re-Auth-Request-Type.
abbrev pub re_auth_request_type : Name
re_auth_request_type = base 285

unfoldable pub known_avps : List Name
known_avps = named_in01 ++ (map base (codes_of_aa_request ++ codes_of_termination) ++ (re_auth_request_type ∷ []))

unfoldable pub is_one_of : List Name → Name → Bool
is_one_of [] n = false
is_one_of (k ∷ ks) n = same_name k n || is_one_of ks n

-- One set for both commands. A known code with another V bit or another vendor is another name.
unfoldable pub known : Name → Bool
known n = is_one_of known_avps n

-- ONE AVP

-- An AVP that was read: its name, whether its M bit is set, its value, and all its bytes with the padding.
pub record Avp : Type 0 where
  pub name : Name
  pub mandatory : Bool
  pub value : List ℕ
  pub bytes : List ℕ

-- Of the bytes that are left, the first four hold the code, byte 4 the flags V M P and five reserved bits,
-- bytes 5 to 7 the length, which counts header and value and not the padding.
-- With V the vendor follows, and the header has 12 bytes, else 8.
abbrev pub has_v : List ℕ → Bool
has_v s = leb 128 (get_or s 4 0)

abbrev pub has_m : List ℕ → Bool
has_m s = eqb (get_or s 4 0 / 64 % 2) 1

unfoldable pub head_length : List ℕ → ℕ
head_length s = pick (has_v s) 12 8

abbrev pub avp_length : List ℕ → ℕ
avp_length s = net24 s 5

-- The four tests of an AVP, in order: at least 8 bytes are left, else 5014; no reserved bit is set, else 3009;
-- the length is no less than the header's, else 5014; its end, padded to 4, is not past the message, else 5014.
unfoldable pub avp_code : List ℕ → ℕ
avp_code s =
    first_of
    (require (leb 8 (length s)) 5014
    ∷ require (eqb (get_or s 4 0 % 32) 0) 3009
    ∷ require (leb (head_length s) (avp_length s)) 5014
    ∷ require (leb (up4 (avp_length s)) (length s)) 5014
    ∷ [])

-- The value starts where the header ends. The padding may hold anything.
unfoldable pub avp_of : List ℕ → Avp
avp_of s =
    record {
      name = pick (has_v s) (vendor (net32 s 8) (net32 s 0)) (base (net32 s 0));
      mandatory = has_m s;
      value = part s (head_length s) (avp_length s - head_length s);
      bytes = take (up4 (avp_length s)) s;
    }

-- An AVP is supported if it is known; one that is not known is, if its M bit is clear.
unfoldable pub supported : Avp → Bool
supported a = known a.name || not a.mandatory

-- The tests of an AVP of a request: the four, then that it is supported, else 5001 (W1).
unfoldable pub request_code : List ℕ → ℕ
request_code s = first_of (avp_code s ∷ require (supported (avp_of s)) 5001 ∷ [])

-- THE WALK

-- The AVPs up to the end or to the first that fails a test, and the code of that failure, 0 where all pass.
pub record Walk : Type 0 where
  pub avps : List Avp
  pub code : ℕ

unfoldable pub behind : Avp → Walk → Walk
behind a w = record { avps = a ∷ w.avps; code = w.code }

-- One AVP after another: where no byte is left the walk is over; an AVP that fails ends it with its code;
-- any other stands before those that follow its padding. `tests` gives the code of the first test that an AVP fails,
-- `onward` is the walk of the bytes behind it.
unfoldable pub walk_one : (tests : List ℕ → ℕ) → (onward : List ℕ → Walk) → List ℕ → Walk
walk_one tests onward s =
    let further : Walk = behind (avp_of s) (onward (drop (up4 (avp_length s)) s)) in
    pick (eqb (length s) 0) (record { avps = []; code = 0 })
    (pick (eqb (tests s) 0) further (record { avps = []; code = tests s }))

-- No more than n AVPs are walked. No bytes hold more AVPs than there are bytes, so that `walk_by` walks all: where the four
-- tests are among `tests`, `walk_is` of proofs/Walks.antt says walk_by tests s ≡ walk_one tests (walk_by tests) s.
unfoldable pub walk_up_to : (tests : List ℕ → ℕ) → ℕ → List ℕ → Walk
walk_up_to tests zero s = record { avps = []; code = 0 }
walk_up_to tests (suc n) s = walk_one tests (λ t. walk_up_to tests n t) s

unfoldable pub walk_by : (tests : List ℕ → ℕ) → List ℕ → Walk
walk_by tests s = walk_up_to tests (suc (length s)) s

-- The walk by the four tests alone, and the walk of a request.
abbrev pub walk : List ℕ → Walk
walk s = walk_by avp_code s

abbrev pub request_walk : List ℕ → Walk
request_walk s = walk_by request_code s

-- A walk that ends at its first AVP that is not supported, with 5001, if it has one.
-- `walks-agree` of proofs/Walks.antt says request_walk s ≡ stopped (walk s).
unfoldable pub stopped_in : List Avp → ℕ → Walk
stopped_in [] c = record { avps = []; code = c }
stopped_in (a ∷ xs) c = pick (supported a) (behind a (stopped_in xs c)) (record { avps = []; code = 5001 })

unfoldable pub stopped : Walk → Walk
stopped w = stopped_in w.avps w.code

-- The message's AVPs stand behind its 20-byte header.
abbrev pub body : List ℕ → List ℕ
body m = drop 20 m

unfoldable pub avps : List ℕ → List Avp
avps m = (request_walk (body m)).avps

unfoldable pub walk_code : List ℕ → ℕ
walk_code m = (request_walk (body m)).code

-- THE LISTS

-- The AVPs of a name, in their order; the value of the first; whether there is one.
unfoldable pub having : Name → List Avp → List Avp
having n xs = keep (λ (a : Avp). same_name n a.name) xs

unfoldable pub first_value : List Avp → List ℕ
first_value [] = []
first_value (a ∷ xs) = a.value

unfoldable pub value_of : Name → List Avp → List ℕ
value_of n xs = first_value (having n xs)

-- The value of the i-th of them, counted from 0; no bytes where there are fewer.
unfoldable pub value_at : ℕ → Name → List Avp → List ℕ
value_at i n xs = first_value (drop i (having n xs))

unfoldable pub present : Name → List Avp → Bool
present n xs = not (eqb (length (having n xs)) 0)

-- An AVP of a list: whether it must be there, how often it may be there, how many bytes its value may have, and which values
-- it may have.
pub record Field : Type 0 where
  pub name : Name
  pub required : Bool
  pub most : ℕ
  pub low : ℕ
  pub high : ℕ
  pub allowed : List ℕ → Bool

unfoldable pub anything : List ℕ → Bool
anything v = true

unfoldable pub number_in : ℕ → ℕ → List ℕ → Bool
number_in low high v = within low high (net32 v 0)

-- Text has 1 to 128 bytes, a label 1 to 100, a number 4. Each may be there once.
unfoldable pub text_field : Name → Bool → Field
text_field n required = record { name = n; required = required; most = 1; low = 1; high = 128; allowed = anything }

unfoldable pub label_field : Name → Bool → Field
label_field n required = record { name = n; required = required; most = 1; low = 1; high = 100; allowed = anything }

unfoldable pub number_field : Name → ℕ → ℕ → Field
number_field n low high = record { name = n; required = true; most = 1; low = 4; high = 4; allowed = number_in low high }

-- A text that may be there several times (W5).
unfoldable pub texts_field : (most : ℕ) → Name → (required : Bool) → Field
texts_field most n required = record { name = n; required = required; most = most; low = 1; high = 128; allowed = anything }

-- Each AVP of a name in its order: a wrong length, 5014; a wrong value, 5004.
unfoldable pub each_code : Field → List Avp → ℕ
each_code f [] = 0
each_code f (a ∷ xs) =
    first_of
    (require (within f.low f.high (length a.value)) 5014
    ∷ require (f.allowed a.value) 5004
    ∷ each_code f xs
    ∷ [])

-- For each field, in order: absent where it is required, 5005; there more often than it may be, 5009; then the AVPs of its
-- name one by one. For a field that may be there once this is: there twice or more, 5009; a wrong length, 5014; a wrong value,
-- 5004 (`tested-none`, `tested-one` and `tested-several` of proofs/Tested.antt).
unfoldable pub tested_as : Field → List Avp → ℕ
tested_as f [] = require (not f.required) 5005
tested_as f (a ∷ xs) = first_of (require (leb (length (a ∷ xs)) f.most) 5009 ∷ each_code f (a ∷ xs) ∷ [])

unfoldable pub field_code : List Avp → Field → ℕ
field_code xs f = tested_as f (having f.name xs)

-- Session-Id is the first AVP of the message, whatever else is there.
unfoldable pub starts_with : Name → List Avp → Bool
starts_with n [] = false
starts_with n (a ∷ xs) = same_name n a.name

-- Both requests: Session-Id, which stands first (else 5005); Auth-Application-Id, 1; Origin-Host; Origin-Realm;
-- Destination-Realm.
unfoldable pub for_both : List Field
for_both =
    text_field session_id true
    ∷ number_field auth_application_id 1 1
    ∷ text_field origin_host true
    ∷ text_field origin_realm true
    ∷ text_field destination_realm true
    ∷ []

-- The type of a 265: 0 asks for a tunnel, 1 brings a routing policy.
abbrev pub type_of : List Avp → ℕ
type_of xs = net32 (value_of session_request_type xs) 0

-- 265: Auth-Request-Type, 2; Destination-Host; User-Name; Session-Request-Type, 0 or 1; a visited network, which may be
-- absent; the W-APN, required for type 0; the policies, required for type 1. What the type has no use for is tested all the same.
-- `most` is how many policies a request may bring: 1 where the table is of form 1, 3 where it is of form 2 (W5).
unfoldable pub for265 : (most : ℕ) → List Avp → List Field
for265 most xs =
    number_field auth_request_type 2 2
    ∷ text_field destination_host true
    ∷ text_field user_name true
    ∷ number_field session_request_type 0 1
    ∷ text_field visited_network false
    ∷ label_field wlan_apn_id (eqb (type_of xs) 0)
    ∷ texts_field most routing_policy (eqb (type_of xs) 1)
    ∷ []

-- 275: Termination-Cause, 1 to 8; Destination-Host; User-Name; the W-APN.
unfoldable pub for275 : List Field
for275 = number_field termination_cause 1 8 ∷ text_field destination_host true ∷ text_field user_name true ∷ label_field wlan_apn_id true ∷ []

unfoldable pub fields : (most : ℕ) → ℕ → List Avp → List Field
fields most c xs = for_both ++ pick (eqb c 265) (for265 most xs) for275

-- The code of the first that fails, AVP by AVP in list order, 0 where none does.
unfoldable pub list_code : (most : ℕ) → ℕ → List Avp → ℕ
list_code most c xs = first_of (require (starts_with session_id xs) 5005 ∷ map (field_code xs) (fields most c xs))

-- Header, then the whole walk, then the lists: the code of the first failing test, 0 where none fails.
unfoldable pub reading_code : (most : ℕ) → List ℕ → ℕ
reading_code most m = first_of (header_code m ∷ walk_code m ∷ list_code most (command m) (avps m) ∷ [])

-- WHAT IS ASKED

pub data Ask : Type 0 where
  -- 265 of type 0: may a tunnel open? Session-Id, Origin-Host, Origin-Realm, W-APN, and whether a visited network is named
  tunnel : (session host realm label : List ℕ) → (visited : Bool) → Ask
  -- 265 of type 1: Session-Id, and the first, the second and the third policy, no bytes where there is none
  policy : (session first second third : List ℕ) → Ask
  -- 275: Session-Id and W-APN
  termination : (session label : List ℕ) → Ask

pub record Request : Type 0 where
  pub user : List ℕ
  pub ask : Ask

unfoldable pub ask_of : ℕ → List Avp → Ask
ask_of c xs =
    pick (eqb c 275) (termination (value_of session_id xs) (value_of wlan_apn_id xs))
    (pick (eqb (type_of xs) 0)
    (tunnel (value_of session_id xs) (value_of origin_host xs) (value_of origin_realm xs) (value_of wlan_apn_id xs) (present visited_network xs))
    (policy (value_of session_id xs) (value_at 0 routing_policy xs) (value_at 1 routing_policy xs) (value_at 2 routing_policy xs)))

unfoldable pub request_of : ℕ → List Avp → Request
request_of c xs = record { user = value_of user_name xs; ask = ask_of c xs }

-- A message as it is read: refused with the code of the first failing test, or a request.
pub data Reading : Type 0 where
  refused : ℕ → Reading
  request : Request → Reading

unfoldable pub read : (most : ℕ) → List ℕ → Reading
read most m = pick (eqb (reading_code most m) 0) (request (request_of (command m) (avps m))) (refused (reading_code most m))
