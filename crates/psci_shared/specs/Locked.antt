-- What a call does under the lock.
use Rattle.std.specs.Prelude.{◌++◌, ◌+◌, ◌∷◌, ◌≡◌, [], length, List, Vec, vec_capacity}
use Rattle.std.specs.Prelude.{vec_items, vec_len, ℕ}
use Rattle.atomic_table.specs.Seated.{TableId}
use Rattle.psci_fw.specs.Reactions.{reply_in}
use Rattle.psci_fw.specs.psci_abi.declared.registers.Format.TheVariants.{Original}
use Rattle.psci_fw.specs.psci_board.Board.{BoardValue}
use Rattle.psci_fw.specs.psci_board.declared.draft.Core.{Core}
use Rattle.psci_fw.specs.psci_fw_spec.Legal.{IsLegal}
use Rattle.psci_fw.specs.psci_fw_spec.Values.{Values}
use Rattle.psci_fw.specs.psci_fw_spec.declared.call.FwCall.{FwCall}
use Rattle.psci_fw.specs.psci_fw_spec.declared.reply.FwReply.{FwReply}
use Rattle.psci_fw.specs.psci_fw_spec.declared.reply.FwReply.TheVariants as replies
use Rattle.psci_status.specs.Lists.{gains, Item}
use Rattle.psci_shared.specs.Passes.{AllLast, answer_after, BookView, entry, Fits, history_of}
use Rattle.psci_shared.specs.Passes.{IsTold, named_by, PassView, Stand}
use Rattle.psci_shared.specs.Places.{called, entered, FwEntry, IsTurnedAwayOf, item}
use Rattle.psci_shared.specs.declared.done.Done.{Done}
use Rattle.psci_shared.specs.declared.done.Said.{Said}
use Rattle.psci_shared.specs.declared.done.Said.TheVariants.{Reacted, Taken}

-- a list has one more at its end, in the room that there was
pub record Pushed {T Z : Type 0} (old new : Vec T Z) (x : T) : Type 0 where
  pub items : vec_items new ≡ vec_items old ++ x ∷ []
  pub count : vec_len new ≡ vec_len old + 1
  pub room : vec_capacity new ≡ vec_capacity old

-- what was said as a reply, with the message that stands in its slot
abbrev pub reply_said : BoardValue → Values → Said → FwReply
reply_said b v (Reacted reacted) = reply_in b v reacted
reply_said b v (Taken taken) = replies.Taken taken

-- the reply is one to such a call, which by it may name this core; and it was said, and left these
-- values
abbrev pub IsDone : Core → FwCall → FwReply → BoardValue → Values → Done → Type 0
IsDone core call reply b v done =
    Fits call reply × (done.named ≡ named_by core call reply) × (reply_said b v done.said ≡ reply)

-- the reply is the one answer after these entries, and one to such a call
abbrev pub IsReply : BoardValue → List FwEntry → ℕ → FwCall → FwReply → Type 0
IsReply b entries core call reply =
    (reply ≡ answer_after b entries core call) × Fits call reply

-- the call stands in the book, whose history was legal, in the list of the pass, and in what the
-- pass has seen
abbrev pub IsEntered : BoardValue → ℕ → BookView → BookView → PassView → PassView → FwCall → FwReply
    → Type 0
IsEntered b ticket book book' p p' call reply =
    (book' ≡ entered book (entry ticket p.core call reply))
    × ((notes : List (List Item)) × (p' ≡ called p (item (length book.entries) call reply)
    (gains p.seen notes)))
    × Stand b book'.entries p'.seen
    × AllLast b book'.entries p'.seen
    × IsLegal b (history_of book.entries)

-- the firmware's book is full: it stays as it is, and the pass is told
abbrev pub IsTurnedAway : BoardValue → ℕ → BookView → BookView → PassView → PassView → Type 0
IsTurnedAway b room book book' p p' = IsTurnedAwayOf (IsTold b) room book book' p p'

-- The names that stand where nothing is named -----------------------------------------------------

-- the board of no firmware
abbrev pub no_board : BoardValue
no_board = record { levels = []; ranges = []; boot = 0; starts = 0; lives = 0; format = Original }

-- the table of no firmware
abbrev pub no_table : TableId
no_table = record {
  words = 0;
  slots = 0;
  views_name = 0;
  atom = 0;
  block = 0;
  offset = 0;
  slot_names = [];
}
