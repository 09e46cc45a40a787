-- Why a firmware and a power controller that threads share may cross threads, layer by layer.
use Rattle.std.specs.Prelude.{◌==◌, if◌then◌else◌}
use Rattle.std.specs.contracts.sync.ledger.Share as Share
use Rattle.std.specs.declared.sync.ledger.Ledger as Ledger
use Rattle.std.proofs.Common.{◌++◌, ◌<◌, ◌∷◌, ◌≡◌, ◌≢◌, [], ap, length, List, map, refl, Some}
use Rattle.std.proofs.Common.{subst, suc, ℕ}
use Rattle.std.proofs.Crossing as heap
use Rattle.std.proofs.lemmas.Bool.{cond_both, ne_eqb}
use Rattle.std.proofs.lemmas.List.{reverse-append}
use Rattle.std.proofs.sync.ledger.Book.TheSendSync as total
use Rattle.std.proofs.sync.ledger.Share.TheSendSync as share
use denote.Param.Send.{IsSend, IsSync, part_keyless, plain_send, plain_sync, recorded_send}
use denote.Param.Send.{recorded_sync, sendable, struct_send, struct_sync, view_send, view_sync}
use denote.RattleType.{RattleType}
use denote.Ref.{NamedLft}
use denote.Struct.Declared.{shape}
use Rattle.psci_board.specs.contracts.draft.Core as Core
use Rattle.psci_board.proofs.board.Board.TheSendSync as board
use Rattle.psci_board.proofs.draft.Core.TheSendSync as core_at
use Rattle.psci_state.proofs.cores.CoreState.TheSendSync as core
use Rattle.psci_tree.specs.contracts.tree.Tree as Tree
use Rattle.psci_tree.proofs.kept.Kept.TheSendSync as kept
use Rattle.psci_messages.specs.declared.start.Start.{Start}
use Rattle.psci_messages.proofs.slots.Slots.TheSendSync as slots
use Rattle.psci_fw_spec.specs.contracts.call.FwCall as FwCall
use Rattle.psci_fw_spec.specs.contracts.reply.FwReply as FwReply
use Rattle.psci_fw_spec.proofs.call.FwCall.TheSendSync as call
use Rattle.psci_fw_spec.proofs.reply.FwReply.TheSendSync as reply
use Rattle.psci_fw_state.specs.contracts.state.State as State
use Rattle.psci_fw_state.proofs.row.CoreRow.TheSendSync as row
use Rattle.psci_fw.specs.contracts.firmware.Firmware as Firmware
use Rattle.psci_fw.specs.psci_board.Board.{BoardValue, cores}
use Rattle.psci_fw.specs.psci_fw_spec.PowerCalls.{status_code}
use Rattle.psci_fw.specs.psci_fw_spec.Changes.{first_status, PowerOn, target}
use Rattle.psci_fw.specs.psci_fw_spec.Effects.{arrived, AsksOn, Effect, effect, Enters}
use Rattle.psci_fw.specs.psci_fw_spec.Effects.{FwExchange}
use Rattle.psci_fw.specs.psci_fw_spec.History.{begins, life, says_status, status}
use Rattle.psci_fw.specs.psci_fw_spec.Statuses.{added, statuses}
use Rattle.psci_fw.specs.psci_fw_spec.declared.status.Status.{Status}
use Rattle.psci_fw.specs.psci_fw_spec.declared.status.Status.TheVariants.{On, Pending}
use Rattle.psci_status.specs.Lists.{Begins, IsLast, Item, row}
use Rattle.psci_status.proofs.Past.{same_code, same_status}
use Rattle.psci_status.proofs.seats.StatusWords.TheSendSync as words
use Rattle.psci_status.proofs.seats.Writer.TheSendSync as writer
use Rattle.psci_shared.specs.Passes.{AllLast, exchange_of, HasSeen, history_of}
use Rattle.psci_shared.specs.Places.{CtlEntry, exchange_of as control_of, FwEntry}
use Rattle.psci_shared.specs.Places.{history_of as controls_of}
use Rattle.psci_shared.specs.contracts.controller.shared.SharedController as Controlled
use Rattle.psci_shared.specs.contracts.locked.FwLocked as Locked
use Rattle.psci_shared.specs.contracts.made.Made as Made
use Rattle.psci_shared.specs.contracts.made.Made.TheInside as MadeOf
use Rattle.psci_shared.specs.contracts.pass.PassOf as PassOf
use Rattle.psci_shared.specs.contracts.seen.Seen as Seen
use Rattle.psci_shared.specs.contracts.shared.SharedFirmware as Shared
use Rattle.psci_shared.specs.contracts.tally.Tally as Tally
use Rattle.psci_shared.specs.contracts.tally.Tally.TheInside as Counted
use Rattle.psci_shared.specs.declared.named.Named as Named
use Rattle.psci_shared.proofs.book.BookOf.TheSendSync as books
use Rattle.psci_shared.proofs.controller.locked.CtlLocked.TheSendSync as controller
use Rattle.psci_shared.proofs.pass.PassOf.TheSendSync as passes
use Rattle.psci_shared.proofs.seen.Seen.TheSendSync as seen
use Rattle.psci_shared.proofs.tickets.Tickets.TheSendSync as tickets

tree : IsSend Tree.the_row
tree =
    search (
      heap.crosses,
      board.the_send,
      core.the_send,
      core.the_field_send,
      kept.the_field_send,
      sendable,
    ) depth 60 fits 20000

state : IsSend State.the_row
state =
    search (
      heap.crosses,
      tree,
      board.the_send,
      slots.the_send,
      row.the_send,
      sendable,
    ) depth 60 fits 20000

firmware : IsSend Firmware.the_row
firmware = search (heap.crosses, state, sendable) depth 60 fits 20000

module _ (N : RattleType) (named : Named.Ghosts N.Denot) (ledger : Ledger.Ghosts N.Denot) where
  counted : IsSend (Counted.the_row N named ledger)
  counted =
      recorded_send (Counted.the_field N named ledger).row _ _
      (Counted.the_type N named ledger).to_one
      (struct_send (shape (Counted.the_type N named ledger))
      (total.the_send N ledger, tt))

  tally : IsSend (Tally.the_row N named ledger)
  tally = view_send _ _ _ _ _ counted

  locked : IsSend (Locked.the_row N named ledger)
  locked =
      recorded_send (Locked.the_field N named ledger).row _ _
      (Locked.the_type N named ledger).to_one
      (struct_send (shape (Locked.the_type N named ledger)) (
        search (
          books.the_send,
          firmware,
          core_at.the_send,
          call.the_send,
          reply.the_send,
          heap.crosses,
          sendable,
        ) depth 60 fits 20000,
        (writer.the_field_send, (plain_send _ _ _ _ _, (tally, tt))),
      ))

  -- by a `&` to a share nothing is known but that it lies there, and that goes for every thread
  rest : IsSync (Share.the_row N ledger)
  rest = record {
    shared = λ d b o κ q. part_keyless (Share.the_row N ledger) (share.the_send N ledger) q d b o;
  }

  parts : IsSync (MadeOf.the_row N named ledger)
  parts =
      recorded_sync (MadeOf.the_field N named ledger).row _ _
      (MadeOf.the_type N named ledger).to_one
      (struct_sync (shape (MadeOf.the_type N named ledger))
      (plain_sync _ _ _ _ _, (rest, tt)))

  made : IsSync (Made.the_row N named ledger)
  made = view_sync _ _ _ _ _ parts

  pub shared : (a : NamedLft) → IsSync (Shared.the_row a N named ledger)
  shared a =
      recorded_sync (Shared.the_field a N named ledger).row _ _
      (Shared.the_type a N named ledger).to_one
      (struct_sync (shape (Shared.the_type a N named ledger)) (
        search (heap.crosses, locked, sendable),
        (
          words.the_field_sync,
          (
            search (tickets.the_sync, sendable),
            (
              board.the_sync,
              (
                search (heap.crosses, sendable),
                (plain_sync _ _ _ _ _, (made, tt)),
              ),
            ),
          ),
        ),
      ))

  pub controlled : (a : NamedLft) → IsSync (Controlled.the_row a N named ledger)
  controlled a =
      recorded_sync (Controlled.the_field a N named ledger).row _ _
      (Controlled.the_type a N named ledger).to_one
      (struct_sync (shape (Controlled.the_type a N named ledger)) (
        search (heap.crosses, controller.the_send, sendable),
        (
          search (tickets.the_sync, sendable),
          (
            search (heap.crosses, sendable),
            (plain_sync _ _ _ _ _, (made, tt)),
          ),
        ),
      ))

  -- a pass of the firmware
  abbrev pub the_pass : RattleType
  the_pass =
      PassOf.the_row N Core.the_row (Seen.the_row N named ledger) FwCall.the_row FwReply.the_row
      named ledger

  pub pass : IsSend the_pass
  pass =
      search (
        passes.the_send,
        seen.the_send,
        core_at.the_send,
        call.the_send,
        reply.the_send,
        sendable,
      ) depth 60 fits 20000

-- Histories of books ------------------------------------------------------------------------------

-- one entry more is the last call of the history
pub history_more : (es : List FwEntry) (e : FwEntry)
    → history_of (es ++ e ∷ []) ≡ exchange_of e ∷ history_of es
unfolding history_of
history_more es e = ap (λ (l : List FwEntry). map exchange_of l) (reverse-append es (e ∷ []))

pub controls_more : (es : List CtlEntry) (e : CtlEntry)
    → controls_of (es ++ e ∷ []) ≡ control_of e ∷ controls_of es
unfolding controls_of
controls_more es e = ap (λ (l : List CtlEntry). map control_of l) (reverse-append es (e ∷ []))

-- no entry is no call
pub history_none : history_of [] ≡ []
unfolding history_of
history_none = refl

pub controls_none : controls_of [] ≡ []
unfolding controls_of
controls_none = refl

-- What a pass has seen last, right after a call of its own ----------------------------------------

-- the last status

last_added : (s : Status) (ss : List Status) (items : List Item) → IsLast (added s ss) items
    → (n : ℕ) × Begins (n, s) items
last_added s [] items h = (0, h)
last_added s (t ∷ ts) items h =
    cond_both (status_code s == status_code t) (t ∷ ts) (s ∷ t ∷ ts)
    (λ (ss : List Status). IsLast ss items → (n : ℕ) × Begins (n, s) items)
    (λ e l. (length ts, rw (← same_status s t e) l)) (λ e l. (suc (length ts), l)) h

last_seen : (b : BoardValue) (h : List FwExchange) (core : ℕ) (items : List Item)
    → IsLast (statuses b h core) items → life b h ≢ 0
    → (n : ℕ) × Begins (n, status b h core) items
unfolding statuses
last_seen b [] core items l ne = absurd (ne refl)
last_seen b (e ∷ h) core items l ne =
    last_added (status b (e ∷ h) core) (if begins (life b h) (arrived (effect b e))
    then added (first_status core) (statuses b h core) else statuses b h core) items
    (rw (ne_eqb (life b (e ∷ h)) 0 ne) at l)

pub has_seen : (b : BoardValue) (entries : List FwEntry) (seen : List (List Item)) (core : ℕ)
    → AllLast b entries seen → life b (history_of entries) ≢ 0 → core < cores b
    → HasSeen seen core (status b (history_of entries) core)
has_seen b entries seen core last ne small =
    last_seen b (history_of entries) core (row seen core) (last core small) ne

-- the status after a call

says : (b : BoardValue) (e : FwExchange) (h : List FwExchange) (core : ℕ) (f : Effect) (s : Status)
    → effect b e ≡ f → says_status b core h f ≡ Some s → status b (e ∷ h) core ≡ s
says b e h core f s is said = rw (is, said) refl

-- after a call more

has_seen_more : (b : BoardValue) (entries : List FwEntry) (e : FwEntry) (seen : List (List Item))
    (core : ℕ) (f : Effect) (s : Status)
    → AllLast b (entries ++ e ∷ []) seen → life b (history_of (entries ++ e ∷ [])) ≢ 0
    → effect b (exchange_of e) ≡ f → says_status b core (history_of entries) f ≡ Some s
    → core < cores b → HasSeen seen core s
has_seen_more b entries e seen core f s last ne is said small =
    subst (λ (t : Status). HasSeen seen core t)
    (rw (history_more entries e) (says b (exchange_of e) (history_of entries) core f s is said))
    (has_seen b (entries ++ e ∷ []) seen core last ne small)

pub asked : (b : BoardValue) (entries : List FwEntry) (e : FwEntry) (seen : List (List Item))
    (caller : ℕ) (on : PowerOn)
    → AllLast b (entries ++ e ∷ []) seen → life b (history_of (entries ++ e ∷ [])) ≢ 0
    → effect b (exchange_of e) ≡ AsksOn caller on → target on < cores b
    → HasSeen seen (target on) Pending
asked b entries e seen caller on last ne is small =
    has_seen_more b entries e seen (target on) (AsksOn caller on) Pending last ne is
    (rw (same_code (target on)) refl) small

pub entered : (b : BoardValue) (entries : List FwEntry) (e : FwEntry) (seen : List (List Item))
    (core : ℕ) (start : Start)
    → AllLast b (entries ++ e ∷ []) seen → life b (history_of (entries ++ e ∷ [])) ≢ 0
    → effect b (exchange_of e) ≡ Enters core start → core < cores b → HasSeen seen core On
entered b entries e seen core start last ne is small =
    has_seen_more b entries e seen core (Enters core start) On last ne is
    (rw (same_code core) refl) small
