-- What was seen by polls stays seen, and stands in the history once the passes are gathered.
use Rattle.std.proofs.Common.{◌++◌, ◌-◌, ◌<◌, ◌∙◌, ◌∷◌, ◌≡◌, [], ap, arith, inl, inr, length}
use Rattle.std.proofs.Common.{List, None, Option, refl, Some, subst, suc, sym, ℕ, ⊎_elim}
use Rattle.std.specs.Prelude.{slice_get, IfSome, IfOk, IfErr, OnErr, Result, Ok, Err}
use Rattle.psci_fw.specs.psci_board.Board.{BoardValue, cores}
use Rattle.psci_fw.specs.psci_board.declared.draft.Core.{Core}
use Rattle.psci_fw.specs.psci_fw_spec.declared.call.FwCall.{FwCall}
use Rattle.psci_fw.specs.psci_fw_spec.declared.reply.FwReply.{FwReply}
use Rattle.psci_fw.specs.psci_fw_spec.declared.reply.FwReply.TheVariants.{Fault}
use Rattle.psci_fw.specs.psci_fw_spec.declared.status.Status.{Status}
use Rattle.psci_status.specs.Lists.{Item, row}
use Rattle.psci_shared.specs.Places.{FwEntry, told}
use Rattle.psci_shared.specs.declared.fault.CallFault.{CallFault}
use Rattle.psci_shared.specs.declared.fault.CallFault.TheVariants.{BookFull, Fw}
use Rattle.psci_shared.specs.declared.sighting.Sighting.{Sighting}
use Rattle.psci_shared.specs.Passes.{AllStand, AreInHistory, IsAmong, IsCalled, IsPolled}
use Rattle.psci_shared.specs.Passes.{IsReadAt, IsRefused, PassView, Stand}
use Rattle.psci_shared.proofs.Written as polling
use Rattle.psci_bench.specs.declared.gathering.Polled.{Polled}
use Rattle.psci_bench.specs.Watches.{AllInHistory, AreSeen, HasSeen, HaveAllSeen, IsKept, IsLast}
use Rattle.psci_bench.specs.Watches.{IsSeenByOne, IsSeenLast}

-- what the first has seen the second has
abbrev Keeps : List (List Item) → List (List Item) → Type 0
Keeps old new = (item : Item) (core : ℕ) → IsAmong item (row old core) → IsAmong item (row new core)

all_kept : (b : BoardValue) (old new : List (List Item)) (ss : List Sighting) → Keeps old new
    → HaveAllSeen b old ss → HaveAllSeen b new ss
all_kept b old new [] keeps h = tt
all_kept b old new (s ∷ ss) keeps h =
    ((h.0.0, keeps (s.serial, s.status) s.core.number h.0.1), all_kept b old new ss keeps h.1)

-- after a call, and after one that was refused
kept_called : (b : BoardValue) (p p' : PassView) (call : FwCall) (reply : FwReply)
    (ss : List Sighting) → IsCalled p p' call reply → HaveAllSeen b p.seen ss
    → HaveAllSeen b p'.seen ss
kept_called b p p' call reply ss is =
    all_kept b p.seen p'.seen ss
    (λ item core. polling.called_keeps item p p' call reply core is)

kept_refused : (b : BoardValue) (p p' : PassView) (call : FwCall) (fault : CallFault)
    (ss : List Sighting) → IsRefused p p' call fault → HaveAllSeen b p.seen ss
    → HaveAllSeen b p'.seen ss
kept_refused b p p' call BookFull ss is h =
    subst (λ (q : PassView). HaveAllSeen b q.seen ss) (sym is) h
kept_refused b p p' call (Fw fault) ss is h = kept_called b p p' call (Fault fault) ss is h

pub kept_answered : {A : Type 0} (b : BoardValue) (p p' : PassView) (call : FwCall)
    (out : A → FwReply) (r : Result A CallFault) (ss : List Sighting)
    → IfOk r (λ o. IsCalled p p' call (out o)) → IfErr r (λ f. IsRefused p p' call f)
    → HaveAllSeen b p.seen ss → HaveAllSeen b p'.seen ss
kept_answered b p p' call out (Ok o) ss ok err h = kept_called b p p' call (out o) ss ok h
kept_answered b p p' call out (Err f) ss ok err h = kept_refused b p p' call f ss err h

pub kept_taken : {A E : Type 0} (b : BoardValue) (p p' : PassView) (call : FwCall)
    (out : A → FwReply) (r : Result A E) (ss : List Sighting)
    → IfOk r (λ o. IsCalled p p' call (out o)) → OnErr r (p' ≡ told p)
    → HaveAllSeen b p.seen ss → HaveAllSeen b p'.seen ss
kept_taken b p p' call out (Ok o) ss ok err h = kept_called b p p' call (out o) ss ok h
kept_taken b p p' call out (Err f) ss ok err h =
    subst (λ (q : PassView). HaveAllSeen b q.seen ss) (sym err) h

-- after a poll, with what it saw
more : (b : BoardValue) (seen : List (List Item)) (ss : List Sighting) (s : Sighting)
    → HaveAllSeen b seen ss → HasSeen b seen s → HaveAllSeen b seen (ss ++ s ∷ [])
more b seen [] s h here = (here, tt)
more b seen (t ∷ ts) s h here = (h.0, more b seen ts s h.1 here)

has_seen : (b : BoardValue) (p p' : PassView) (s : Sighting) → s.core.number < cores b
    → IsReadAt p p' s.core.number s.serial s.status → HasSeen b p'.seen s
has_seen b p p' s small is =
    (small, polling.among_begun (s.serial, s.status) (row p'.seen s.core.number) is.1)

kept_read : (b : BoardValue) (p p' : PassView) (s : Sighting) (ss : List Sighting)
    → s.core.number < cores b → IsReadAt p p' s.core.number s.serial s.status
    → HaveAllSeen b p.seen ss → HaveAllSeen b p'.seen ss
kept_read b p p' s ss small is =
    all_kept b p.seen p'.seen ss
    (λ item core. polling.read_keeps item p p' s.core.number s.serial s.status core is)

abbrev or_else : Sighting → Option Sighting → Sighting
or_else s None = s
or_else s (Some t) = t

some_inj : (s t : Sighting) → Some s ≡ Some t → s ≡ t
some_inj s t e = ap (λ (f : Option Sighting). or_else s f) e

pub kept_polled : (b : BoardValue) (core : Option Core) (p p' : PassView) (found : Option Sighting)
    (ss ss' : List Sighting) → IsPolled core p p' found
    → IfSome found (λ s. s.core.number < cores b) → IsKept ss found ss'
    → HaveAllSeen b p.seen ss → HaveAllSeen b p'.seen ss'
kept_polled b None p p' found ss ss' is small (inl e) h =
    subst (λ (l : List Sighting). HaveAllSeen b p'.seen l) (sym e)
    (subst (λ (q : PassView). HaveAllSeen b q.seen ss) (sym is.1) h)
kept_polled b None p p' found ss ss' is small (inr e) h =
    let no : None ≡ Some e.0 = sym is.0 ∙ e.1 in cc
kept_polled b (Some core) p p' found ss ss' is small kept h =
    let s : Sighting = is.0 in
    let low = subst (λ (f : Option Sighting). IfSome f (λ t. t.core.number < cores b)) is.1 small in
    let read : IsReadAt p p' s.core.number s.serial s.status =
    subst (λ (c : Core). IsReadAt p p' c.number s.serial s.status) (sym is.2) is.3 in
    let before = kept_read b p p' s ss low read h in
    ⊎_elim
    (λ (e : ss' ≡ ss). subst (λ (l : List Sighting). HaveAllSeen b p'.seen l) (sym e) before)
    (λ (e : (t : Sighting) × (found ≡ Some t) × (ss' ≡ ss ++ t ∷ [])).
    let same : s ≡ e.0 = some_inj s e.0 (sym is.1 ∙ e.1) in
    subst (λ (l : List Sighting). HaveAllSeen b p'.seen l)
    (ap (λ (t : Sighting). ss ++ t ∷ []) same ∙ sym e.2)
    (more b p'.seen ss s before (has_seen b p p' s low read)))
    kept

pub seen_last : {E : Type 0} (r : Result (Option Status) E) (found : Option Sighting)
    (ss : List Sighting) → IfOk r (λ status. IsSeenLast found status ss)
    → IfOk r (λ status. (f : Option Sighting) × IsSeenLast f status ss)
seen_last (Ok status) found ss h = (found, h)
seen_last (Err e) found ss h = tt

-- the last of a list
pushed_at : (ss : List Sighting) (s : Sighting) → slice_get (ss ++ s ∷ []) (length ss) ≡ Some s
pushed_at [] s = refl
pushed_at (t ∷ ts) s = pushed_at ts s

one_longer : (ss : List Sighting) (s : Sighting) → length (ss ++ s ∷ []) ≡ suc (length ss)
one_longer [] s = refl
one_longer (t ∷ ts) s = ap suc (one_longer ts s)

pub last_pushed : (ss : List Sighting) (s : Sighting) → IsLast s (ss ++ s ∷ [])
last_pushed ss s =
    let e = one_longer ss s in
    let less : length ss ≡ length (ss ++ s ∷ []) - 1 = omega (arith, e) in
    subst (λ (n : ℕ). slice_get (ss ++ s ∷ []) n ≡ Some s) less (pushed_at ss s)

-- of the threads ----------------------------------------------------------------------------------

-- one pass more
by_one_more : (b : BoardValue) (ps : List PassView) (p : PassView) (ss : List Sighting)
    → IsSeenByOne b ps ss → IsSeenByOne b (ps ++ p ∷ []) ss
by_one_more b [] p ss h = absurd h
by_one_more b (q ∷ qs) p ss (inl h) = inl h
by_one_more b (q ∷ qs) p ss (inr h) = inr (by_one_more b qs p ss h)

pub by_last : (b : BoardValue) (ps : List PassView) (p : PassView) (ss : List Sighting)
    → HaveAllSeen b p.seen ss → IsSeenByOne b (ps ++ p ∷ []) ss
by_last b [] p ss h = inl h
by_last b (q ∷ qs) p ss h = inr (by_last b qs p ss h)

pub seen_more : (b : BoardValue) (ps : List PassView) (p : PassView) (qs : List Polled)
    → AreSeen b ps qs → AreSeen b (ps ++ p ∷ []) qs
seen_more b ps p [] h = tt
seen_more b ps p (q ∷ qs) h =
    (by_one_more b ps p q.seen.items h.0, seen_more b ps p qs h.1)

pub both : (b : BoardValue) (ps : List PassView) (qs : List Polled) (q : Polled) → AreSeen b ps qs
    → IsSeenByOne b ps q.seen.items → AreSeen b ps (qs ++ q ∷ [])
both b ps [] q h here = (here, tt)
both b ps (r ∷ rs) q h here = (h.0, both b ps rs q h.1 here)

-- in the history ----------------------------------------------------------------------------------

of_pass : (b : BoardValue) (es : List FwEntry) (seen : List (List Item)) (ss : List Sighting)
    → Stand b es seen → HaveAllSeen b seen ss → AreInHistory b es ss
of_pass b es seen [] stand h = tt
of_pass b es seen (s ∷ ss) stand h = (
  (h.0.0, polling.stands b es (s.serial, s.status) s.core.number seen stand h.0.0 h.0.1),
  of_pass b es seen ss stand h.1,
)

of_one : (b : BoardValue) (es : List FwEntry) (ps : List PassView) (ss : List Sighting)
    → AllStand b es ps → IsSeenByOne b ps ss → AreInHistory b es ss
of_one b es [] ss stand h = absurd h
of_one b es (p ∷ ps) ss stand (inl h) = of_pass b es p.seen ss stand.0 h
of_one b es (p ∷ ps) ss stand (inr h) = of_one b es ps ss stand.1 h

pub in_history : (b : BoardValue) (es : List FwEntry) (ps : List PassView) (qs : List Polled)
    → AllStand b es ps → AreSeen b ps qs → AllInHistory b es qs
in_history b es ps [] stand h = tt
in_history b es ps (q ∷ qs) stand h =
    (of_one b es ps q.seen.items stand h.0, in_history b es ps qs stand h.1)
