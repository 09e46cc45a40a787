-- What is written of each core are its statuses, and what was seen of it stands in them.
use Rattle.std.specs.Prelude.{◌==◌, nat_lt, not, pos}
use Rattle.std.proofs.Common.{◌*◌, ◌++◌, ◌+◌, ◌<◌, ◌^◌, ◌∙◌, ◌∷◌, ◌≡◌, ◌≤◌, [], ap, arith, inl}
use Rattle.std.proofs.Common.{inr, length, List, map, None, Option, refl, replicate, reverse}
use Rattle.std.proofs.Common.{Some, subst, suc, take, zero, ℕ}
use Rattle.std.proofs.lemmas.Bool.{cond_both}
use Rattle.std.proofs.lemmas.List.{length-map, length-reverse}
use Rattle.psci_fw.specs.psci_abi.declared.registers.Code.{Code}
use Rattle.psci_fw.specs.psci_abi.declared.registers.Format.TheVariants.{Original}
use Rattle.psci_fw.specs.psci_board.Board.{BoardValue, core_of, cores}
use Rattle.psci_fw.specs.psci_board.declared.draft.Core.{Core}
use Rattle.psci_fw.specs.psci_fw_spec.PowerCalls.{status_code}
use Rattle.psci_fw.specs.psci_fw_spec.Effects.{FwExchange}
use Rattle.psci_fw.specs.psci_fw_spec.History.{life, status}
use Rattle.psci_fw.specs.psci_fw_spec.Statuses.{statuses}
use Rattle.psci_fw.specs.psci_fw_spec.declared.call.FwCall.{FwCall}
use Rattle.psci_fw.specs.psci_fw_spec.declared.reply.FwReply.{FwReply}
use Rattle.psci_fw.specs.psci_fw_spec.declared.status.Status.{Status}
use Rattle.psci_fw.specs.psci_fw_spec.declared.status.Status.TheVariants.{Off}
use Rattle.psci_status.specs.Lists.{Begins, gain, gain_from, gains, Item, row, Stands, Within}
use Rattle.psci_status.proofs.CallSteps.{first_statuses, row_same}
use Rattle.psci_status.proofs.Counting.{length_one_more}
use Rattle.psci_status.proofs.Past.{statuses_more}
use Rattle.psci_status.proofs.Steps.{row_set_all}
use Rattle.psci_shared.specs.Passes.{AllSeen, AllStand, BookView, exchange_of, Goes, history_of}
use Rattle.psci_shared.specs.Passes.{IsAffinity, IsAmong, IsCalled, IsOneOf, IsReadAt, IsStep}
use Rattle.psci_shared.specs.Passes.{IsWritten, met, PassView, Stand, written_after}
use Rattle.psci_shared.specs.Places.{entered, FullIfTold, FwEntry, IsTotal}
use Rattle.psci_shared.proofs.Crossing.{history_more, history_none}

-- What a pass has seen it keeps, and what a poll answered stands in the history -------------------

pub among_begun : (item : Item) (is : List Item) → Begins item is → IsAmong item is
among_begun item is h = rw h.1 (inl refl)

module _ (item : Item) where
  -- one list keeps its items
  among_gain : (x : Item) (is : List Item) → IsAmong item is → IsAmong item (gain x is)
  among_gain x [] h = absurd h
  among_gain x (last ∷ is) h =
      cond_both (nat_lt last.0 x.0) _ _ (IsAmong item) (λ e. inr h) (λ e. h)

  among_note : (note is : List Item) → IsAmong item is → IsAmong item (gain_from note is)
  among_note [] is h = h
  among_note (x ∷ older) is h = among_gain x is h

  among_stands : (written : List Status) (is : List Item) → Within written is → IsAmong item is
      → Stands written item
  among_stands written [] w h = absurd h
  among_stands written (i ∷ is) w (inl same) = rw same w.0
  among_stands written (i ∷ is) w (inr older) = among_stands written is w.2 older

  -- so do the lists of all cores
  among_gains : (seen notes : List (List Item)) (core : ℕ)
      → IsAmong item (row seen core) → IsAmong item (row (gains seen notes) core)
  among_gains [] notes core h = h
  among_gains (r ∷ rs) [] core h = h
  among_gains (r ∷ rs) (n ∷ ns) zero h = among_note n r h
  among_gains (r ∷ rs) (n ∷ ns) (suc core) h = among_gains rs ns core h

  -- a pass keeps what it has seen
  pub called_keeps : (p p' : PassView) (call : FwCall) (reply : FwReply) (core : ℕ)
      → IsCalled p p' call reply → IsAmong item (row p.seen core) → IsAmong item (row p'.seen core)
  called_keeps p p' call reply core is h = rw is.2 (among_gains p.seen is.1 core h)

  pub read_keeps : (p p' : PassView) (c serial : ℕ) (status : Status) (core : ℕ)
      → IsReadAt p p' c serial status → IsAmong item (row p.seen core)
      → IsAmong item (row p'.seen core)
  read_keeps p p' c serial status core is h =
      rw is.0 (row_set_all (λ d l. IsAmong item (row p.seen d) → IsAmong item l) p.seen c
      (gain (serial, status) (row p.seen c)) (λ d k. k)
      (among_gain (serial, status) (row p.seen c)) core h)

  poll_keeps : (found : Option Core) (p p' : PassView) (code : Code) (core : ℕ)
      → IsAffinity found p p' code → IsAmong item (row p.seen core)
      → IsAmong item (row p'.seen core)
  poll_keeps None p p' code core is h = rw is.1 h
  poll_keeps (Some c) p p' code core is h =
      read_keeps p p' c.number is.1.0 is.0 core is.1.1 h

  step_keeps : (b : BoardValue) (p p' : PassView) (core : ℕ) → IsStep b p p'
      → IsAmong item (row p.seen core) → IsAmong item (row p'.seen core)
  step_keeps b p p' core (inl is) h = called_keeps p p' is.0 is.1 core is.2 h
  step_keeps b p p' core (inr (inl is)) h = rw is h
  step_keeps b p p' core (inr (inr is)) h = poll_keeps (core_of b is.0) p p' is.1 core is.2 h

pub keeps : (b : BoardValue) (item : Item) (core : ℕ) (p : PassView) (on : List PassView)
    (p' : PassView) → Goes b p on p' → IsAmong item (row p.seen core)
    → IsAmong item (row p'.seen core)
keeps b item core p [] p' is h = rw is h
keeps b item core p (q ∷ qs) p' is h =
    keeps b item core q qs p' is.1 (step_keeps item b p q core is.0 h)

-- what a poll answered stands in the history

pub stands : (b : BoardValue) (entries : List FwEntry) (item : Item) (core : ℕ)
    (seen : List (List Item)) → Stand b entries seen → core < cores b
    → IsAmong item (row seen core) → Stands (statuses b (history_of entries) core) item
stands b entries item core seen stand small h =
    among_stands item (statuses b (history_of entries) core) (row seen core) (stand core small) h

pub polled : (b : BoardValue) (entries : List FwEntry) (p p' last : PassView)
    (on : List PassView) (core : Core) (code : Code)
    → IsAffinity (Some core) p p' code → Goes b p' on last → Stand b entries last.seen
    → core.number < cores b
    → (status : Status) × (code ≡ record { 0 = pos (status_code status) })
    × IsOneOf b entries core.number status
polled b entries p p' last on core code is goes stand small =
    let item : Item = (is.1.0, is.0) in
    let now = among_begun item (row p'.seen core.number) is.1.1.1 in
    let kept = keeps b item core.number p' on last goes now in
    (is.0, is.2, (is.1.0, stands b entries item core.number last.seen stand small kept))

-- Telling -----------------------------------------------------------------------------------------
-- What the ledger says of the items of passes, and what these were told before they met the writer.

-- where all that is counted in a total is so many items, and so many passes that were told, there
-- are as many entries as items
pub as_many : (entries room total items told passes : ℕ) → IsTotal entries room total
    → entries < 2 ^ 32 → items ≤ passes * 2 ^ 32 → passes ≤ 1001
    → items + 2 ^ 48 * told ≡ total → entries ≡ items
as_many entries room total items told passes h few small came is =
    let a = h.0 in let b = h.1 in omega arith

pub told_before : (entries room : ℕ) (notes : List (List Item)) (ps : List PassView)
    → FullIfTold entries room (map (met notes) ps) → FullIfTold entries room ps
told_before entries room notes [] h = tt
told_before entries room notes (p ∷ ps) h = (h.0, told_before entries room notes ps h.1)

-- A board of two cores, of which worked examples speak, and what holds of both --------------------

abbrev pub board : BoardValue
board = record {
  levels = (2 ∷ []) ∷ [];
  ranges = record { start = 0; end = 64 } ∷ [];
  boot = 0;
  starts = 9;
  lives = 3;
  format = Original;
}

pub of_two : (P : ℕ → Type 0) → P 0 → P 1 → (core : ℕ) → core < 2 → P core
of_two P a b zero h = a
of_two P a b (suc zero) h = b
of_two P a b (suc (suc core)) h = absurd (omega (arith, h))

-- Written -----------------------------------------------------------------------------------------

-- How long the lists are ----------------------------------------------------------------------

length_statuses : (b : BoardValue) (h : List FwExchange) (core : ℕ)
    → length (statuses b h core) ≤ 2 * length h + 1
unfolding statuses
length_statuses b [] core = omega arith
length_statuses b (e ∷ h) core =
    let few = length_statuses b h core in
    subst (λ (ss : List Status). length ss ≤ 2 * length (e ∷ h) + 1) (statuses_more b e h core)
    (cond_both (life b (e ∷ h) == 0) (statuses b h core) _
    (λ (ss : List Status). length ss ≤ 2 * length (e ∷ h) + 1) (λ none. omega (arith, few))
    (λ some. omega (
      arith,
      few,
      length_one_more (not (life b (e ∷ h) == life b h)) core
          (status b (e ∷ h) core) (statuses b h core),
    )))

length_history : (entries : List FwEntry) → length (history_of entries) ≡ length entries
unfolding history_of
length_history entries = length-map (reverse entries) exchange_of ∙ length-reverse entries

-- there is always room for two statuses more
pub few_written : (b : BoardValue) (log : List (List Status)) (entries : List FwEntry)
    → IsWritten b log entries → length entries < 2 ^ 32
    → (core : ℕ) → core < cores b → length (row log core) < 2 ^ 60
few_written b log entries is few core small =
    omega (
      arith,
      length_statuses b (history_of entries) core,
      ap length (is core small),
      length_history entries,
    )

-- what is written after one call more
written_more : (b : BoardValue) (log log' : List (List Status)) (entries : List FwEntry)
    (e : FwEntry) (before : ℕ)
    → before ≡ life b (history_of entries) → IsWritten b log entries
    → ((core : ℕ) → core < cores b
    → row log' core ≡ written_after b (entries ++ e ∷ []) before core (row log core))
    → IsWritten b log' (entries ++ e ∷ [])
written_more b log log' entries e before was is wrote core small =
    rw (history_more entries e)
    (rw (history_more entries e, was, is core small) at (wrote core small)
    ∙ statuses_more b (exchange_of e) (history_of entries) core)

-- the same over books, as the lock has them
pub written_on : (b : BoardValue) (log log1 log2 : List (List Status)) (k k' : BookView)
    (e : FwEntry) (before : ℕ)
    → k' ≡ entered k e → before ≡ life b (history_of k.entries) → IsWritten b log k.entries
    → ((core : ℕ) → core < cores b
    → row log1 core ≡ written_after b k'.entries before core (row log core))
    → log2 ≡ log1 → IsWritten b log2 k'.entries
written_on b log log1 log2 k k' e before more was is wrote met =
    rw (more, met) (written_more b log log1 k.entries e before was is (rw more at wrote))

-- what is written before any call, over the entries of a new book
pub written_first : (b : BoardValue) (log : List (List Status)) (entries : List FwEntry)
    → entries ≡ [] → log ≡ replicate (cores b) (Off ∷ []) → IsWritten b log entries
written_first b log entries none is core small =
    rw (none, is, history_none, row_same (cores b) core small, first_statuses b core) refl

-- What was seen -------------------------------------------------------------------------------

pub all_stands : (b : BoardValue) (log : List (List Status)) (entries : List FwEntry)
    (ps : List PassView)
    → IsWritten b log entries → AllSeen log ps → AllStand b entries ps
all_stands b log entries [] is seen = tt
all_stands b log entries (p ∷ ps) is seen = (
  λ core small. rw (is core small) at (seen.0 core),
  all_stands b log entries ps is seen.1,
)

-- what a slice wrote back to its vector
pub taken : (xs zs : List PassView) (n : ℕ) → n ≡ length xs → take n (xs ++ zs) ≡ xs
taken [] zs zero e = refl
taken [] zs (suc n) e = absurd (omega arith)
taken (x ∷ xs) zs zero e = absurd (omega arith)
taken (x ∷ xs) zs (suc n) e = ap (λ (l : List PassView). x ∷ l) (taken xs zs n (omega arith))
