-- The demands, each a statement of specs/ with its proof, which stands in the file that is cited.
use Rattle.order.specs.Demand2.{FirstFailingCheck, SuccessExactly, RefusedChangesNothing, UnansweredLeaves, RefusedLeaves, CutExactly, OneToCut, SuccessReply, SuccessFindsRow, SuccessReplacesRow, OtherRowsStay, SoundStaysSound, SoundStaysInList}
use Rattle.order.specs.ChecksInOrder.{TellsTheByte, TellsTheUnknown}
use Rattle.order.specs.Demand3.{FormStays, OneReplyEach, EachInTurn, LastTable, RepliesAlone, RecordAlone, LookupStays, BroughtDecides, RoomsAfter, NoticeTold, SameTable, SameReplies, SameRecord, NobodysReply, NobodyChangesNothing, NobodysReplies, SubjectCounts, SenderCounts, NoSender, RepliesAloneBy, RecordAloneBy, SameTableBy, SameRepliesBy, SameRecordBy}
use Rattle.order.specs.OpenedFirst.{LineIsHistory, EntriesStay, CutOpenedFirst, SecondRowStays, UnsoundRowStays}
use Rattle.order.specs.OpenedAgain.{OpenedAgainStandsLast}
use Rattle.order.specs.NoSecondAnswer.{OneClearing, OneEntering, OneAdding, OneAnswer}
use Rattle.order.specs.SettingUp.{ClearRefused, EnterRefused, AddRefused, ClearedZero, EnterWrites, EnteredFound, AddWrites}
use Rattle.order.proofs.Read as Read
use Rattle.order.proofs.Checks as Checks
use Rattle.order.proofs.Rest as Rest
use Rattle.order.proofs.OpenedAgain as OpenedAgain
use Rattle.order.proofs.Opening as Opening
use Rattle.order.proofs.Lists as Lists
use Rattle.order.proofs.Rooms as Rooms
use Rattle.order.proofs.Counted as Counted
use Rattle.order.proofs.Setting as Setting
use Rattle.order.proofs.NoSecondAnswer as NoSecondAnswer

-- DEMAND 1: every input has a defined outcome, since `handle`, `clear`, `enter` and `add` are defined for all; and no second
-- one meets what the operations promise.
pub no-second-clearing : OneClearing
no-second-clearing = NoSecondAnswer.one-clearing

pub no-second-entering : OneEntering
no-second-entering = NoSecondAnswer.one-entering

pub no-second-adding : OneAdding
no-second-adding = NoSecondAnswer.one-adding

pub no-second-answer : OneAnswer
no-second-answer = NoSecondAnswer.one_answer

-- DEMAND 2

-- the first failing check gives the code
pub first-failing-check : FirstFailingCheck
first-failing-check = Checks.first-failing-check

-- and a failing AVP is told with the byte at which it starts
pub tells-the-byte : TellsTheByte
tells-the-byte = Read.tells-the-byte

pub tells-the-unknown : TellsTheUnknown
tells-the-unknown = Read.tells-the-unknown

-- success is given exactly when none fails
pub success-exactly : SuccessExactly
success-exactly = Checks.success-exactly

-- a refused request changes no record and cuts nothing
pub refused-changes-nothing : RefusedChangesNothing
refused-changes-nothing = Checks.refused-changes-nothing

-- all that a call leaves that gets no answer, or that is refused
pub unanswered-leaves : UnansweredLeaves
unanswered-leaves = Checks.unanswered-leaves

pub refused-leaves : RefusedLeaves
refused-leaves = Checks.refused-leaves

-- a cut happens exactly when the new tunnel would exceed the limit on that access point name
pub cut-exactly : CutExactly
cut-exactly = Checks.cut-exactly

-- there is then a tunnel to cut, and it is the one there that was opened first
pub one-to-cut : OneToCut
one-to-cut = Checks.one-to-cut

pub success-reply : SuccessReply
success-reply = Checks.success-reply

-- the order line is the order of opening: what the subscriber's calls and their replies show, from the line before them
pub line-is-history : LineIsHistory
line-is-history = Opening.line-is-history

pub opened-again-stands-last : OpenedAgainStandsLast
opened-again-stands-last = OpenedAgain.opened-again-stands-last

-- so that the tunnel that is cut is the one there that was opened first
pub cut-opened-first : CutOpenedFirst
cut-opened-first = Opening.cut-opened-first

-- no call changes a row's entries, a second row of a name, or an unsound row
pub entries-stay : EntriesStay
entries-stay = Opening.entries-stay

pub second-row-stays : SecondRowStays
second-row-stays = Opening.second-row-stays

pub unsound-row-stays : UnsoundRowStays
unsound-row-stays = Opening.unsound-row-stays

-- success finds a row, replaces that row, and no other
pub success-finds-row : SuccessFindsRow
success-finds-row = Checks.success-finds-row

pub success-replaces-row : SuccessReplacesRow
success-replaces-row = Rest.success-replaces-row

pub other-rows-stay : OtherRowsStay
other-rows-stay = Rest.other-rows-stay

-- a sound row stays sound
pub sound-stays-sound : SoundStaysSound
sound-stays-sound = Rest.sound-stays-sound

pub sound-stays-in-list : SoundStaysInList
sound-stays-in-list = Rest.sound-stays-in-list

-- a list of calls: one reply each, in turn
pub one-reply-each : OneReplyEach
one-reply-each = Lists.one-reply-each

pub each-in-turn : EachInTurn
each-in-turn = Lists.each-in-turn

pub last-table : LastTable
last-table = Lists.last-table

-- DEMAND 3

-- all calls of a list meet a table of one form
pub form-stays : FormStays
form-stays = Lists.form-stays

-- each subscriber's answers and cuts are those of its calls alone
pub replies-alone : RepliesAlone
replies-alone = Lists.replies-alone

-- and so is its final record
pub record-alone : RecordAlone
record-alone = Lists.record-alone

pub lookup-stays : LookupStays
lookup-stays = Lists.lookup-stays

-- what a call leaves depends on its rooms only as to whether they are large enough; they stay but for what is told
pub brought-decides : BroughtDecides
brought-decides = Rooms.brought-decides

pub rooms-after : RoomsAfter
rooms-after = Rooms.rooms-after

pub notice-told : NoticeTold
notice-told = Rooms.notice-told

-- so two lists whose calls bring the same, each subscriber's in order, end with the same table, and each call gets the same
-- answer
pub same-table : SameTable
same-table = Rooms.same-table

pub same-replies : SameReplies
same-replies = Rooms.same-replies

pub same-record : SameRecord
same-record = Rooms.same-record

-- a message that belongs to nobody is answered by no record
pub nobodys-reply : NobodysReply
nobodys-reply = Lists.nobodys-reply

pub nobody-changes-nothing : NobodyChangesNothing
nobody-changes-nothing = Lists.nobody-changes-nothing

pub nobodys-replies : NobodysReplies
nobodys-replies = Lists.nobodys-replies

-- the same where refused messages are counted as those of the User-Name that was read, and for any such counting
pub subject-counts : SubjectCounts
subject-counts = Counted.subject-counts

pub sender-counts : SenderCounts
sender-counts = Counted.sender-counts

pub no-sender : NoSender
no-sender = Counted.no-sender

pub replies-alone-by : RepliesAloneBy
replies-alone-by = Counted.replies-alone-by

pub record-alone-by : RecordAloneBy
record-alone-by = Counted.record-alone-by

pub same-table-by : SameTableBy
same-table-by = Counted.same-table-by

pub same-replies-by : SameRepliesBy
same-replies-by = Counted.same-replies-by

pub same-record-by : SameRecordBy
same-record-by = Counted.same-record-by

-- SET-UP

pub clear-refused : ClearRefused
clear-refused = Setting.clear-refused

pub cleared-zero : ClearedZero
cleared-zero = Setting.cleared-zero

pub enter-refused : EnterRefused
enter-refused = Setting.enter-refused

pub enter-writes : EnterWrites
enter-writes = Setting.enter-writes

pub entered-found : EnteredFound
entered-found = Setting.entered-found

pub add-refused : AddRefused
add-refused = Setting.add-refused

pub add-writes : AddWrites
add-writes = Setting.add-writes
