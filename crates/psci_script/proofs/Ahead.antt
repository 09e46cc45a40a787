-- Reading ahead, step after step.
use Rattle.std.specs.Io.KnownBytes.{Appends, Keeps}
use Rattle.std.proofs.Common.{◌++◌, ◌<◌, ◌∙◌, ◌∷◌, ◌≡◌, ◌≤◌, [], ap, append-nil, append_assoc}
use Rattle.std.proofs.Common.{arith, Bool, cond, Err, false, IfErr, IfOk, inr, IsErr, IsErrAnd}
use Rattle.std.proofs.Common.{length, length-append, List, nat_lt, None, Ok, OnErr, Option, refl}
use Rattle.std.proofs.Common.{Result, Some, subst, sym, take, true, ℕ}
use Rattle.std.proofs.lemmas.Bool.Decides.{nat_tests}
use Rattle.std.proofs.lemmas.List.{take_all}
use borrow.Author.Tests.{ltb-false, ltb-true}
use Rattle.psci_script.specs.EventText.{Answered, has_line_feed, ReadAhead, Refills}
use Rattle.psci_script.specs.Progress.{Ahead, FailsAhead, FailsLine, FindsLine, IsLineFront}
use Rattle.psci_script.specs.Progress.{Progress, progress, ReadFailed, ReadsAhead, SameDevices}
use Rattle.psci_script.specs.Progress.{StaySound, WriteFailed}
use Rattle.psci_script.specs.declared.fault.ReplayFault.{ReplayFault}
use Rattle.psci_script.specs.declared.fault.ReplayFault.TheVariants.{Read, Write}
use Rattle.psci_script.specs.declared.transfer.Extent.{Extent}
use Rattle.psci_script.specs.declared.telling.Progress.{Progress as Fields}
use Rattle.psci_script.proofs.Finish.{appends_more, appends_none, consumes_keeps, consumes_more}
use Rattle.psci_script.proofs.Finish.{consumes_none}

-- the same devices, and none of them failed, from step to step
pub same_more : {S K : Type 0} {s t u : Fields S K} → SameDevices s t → SameDevices t u
    → SameDevices s u
same_more a b = record { source = b.source ∙ a.source; sink = b.sink ∙ a.sink }

pub sound_more : {S K : Type 0} {s t u : Fields S K} (f : S → Bool) (h : K → Bool)
    → StaySound f h s t → StaySound f h t u → StaySound f h s u
sound_more f h a b = record { source = b.source ∙ a.source; sink = b.sink ∙ a.sink }

pub ahead_none : (s : Progress) → Ahead s s
ahead_none s = record {
  bytes = [];
  appended = sym (append-nil s.block.unread);
  from = consumes_none s.left;
  ended = λ e. (e, refl);
  at_end = λ f e. f e;
  written = [];
  waits = refl;
  to = appends_none s.taken;
  events = refl;
}

pub ahead_more : (s t u : Progress) → Ahead s t → Ahead t u → Ahead s u
ahead_more s t u a b = record {
  bytes = a.bytes ++ b.bytes;
  appended = b.appended ∙ ap (λ (x : List ℕ). x ++ b.bytes) a.appended
      ∙ append_assoc s.block.unread a.bytes b.bytes;
  from = consumes_more s.left t.left u.left a.bytes b.bytes a.from b.from;
  ended = λ e. let f = a.ended e in let g = b.ended f.0 in
      (g.0, ap (λ (x : List ℕ). x ++ b.bytes) f.1 ∙ g.1);
  at_end = λ f e. b.at_end (a.at_end f) e;
  written = a.written ++ b.written;
  waits = a.waits ∙ ap (λ (x : List ℕ). a.written ++ x) b.waits
      ∙ sym (append_assoc a.written b.written u.answered.waiting);
  to = appends_more s.taken t.taken u.taken a.written b.written a.to b.to;
  events = b.events ∙ a.events;
}

pub write_failed_more : (s t u : Progress) → Ahead s t → WriteFailed t u → WriteFailed s u
write_failed_more s t u a b = record {
  before = b.before;
  ahead = ahead_more s t b.before a b.ahead;
  count = b.count;
  to = b.to;
  left = b.left;
}

pub read_failed_more : (s t u : Progress) → Ahead s t → ReadFailed t u → ReadFailed s u
read_failed_more s t u a b = record {
  ahead = ahead_more s t u a b.ahead;
  none_wait = b.none_wait;
  going = b.going;
}

-- what writing all answers leaves
pub written : (block : ReadAhead) (left taken after : Option (List ℕ)) (old new : Answered)
    → new ≡ record old { waiting = [] } → Appends taken after old.waiting
    → Ahead (progress block left old taken) (progress block left new after)
written block left taken after old new e w = record {
  bytes = [];
  appended = sym (append-nil block.unread);
  from = consumes_none left;
  ended = λ e. (e, refl);
  at_end = λ f e. f e;
  written = old.waiting;
  waits = sym (append-nil old.waiting)
      ∙ ap (λ (x : List ℕ). old.waiting ++ x) (sym (ap (λ (a : Answered). a.waiting) e));
  to = w;
  events = ap (λ (a : Answered). a.events) e;
}

-- what reading ahead leaves
pub refilled_ahead : (some : Bool) (old new : ReadAhead) (left after taken : Option (List ℕ))
    (answered : Answered) → Refills some old new left after
    → (old.ended ≡ true → (new.ended ≡ true) × (some ≡ false))
    → Ahead (progress old left answered taken) (progress new after answered taken)
refilled_ahead some old new left after taken answered r k = record {
  bytes = r.bytes;
  appended = r.appended;
  from = r.from;
  ended = λ e. ((k e).0, (r.none (k e).1).0);
  at_end = r.at_end;
  written = [];
  waits = refl;
  to = appends_none taken;
  events = refl;
}

after_end : (some : Bool) (old new : ReadAhead) (left after : Option (List ℕ))
    → Refills some old new left after → old.ended ≡ true → (new.ended ≡ true) × (some ≡ false)
after_end true old new left after r e = absurd (let f = (r.came refl).1 in cc)
after_end false old new left after r e = ((r.none refl).1, refl)

-- a read that failed leaves all as it was
unread_ahead : (old new : ReadAhead) (left after taken : Option (List ℕ)) (answered : Answered)
    → new ≡ old → Keeps left after → old.ended ≡ false
    → Ahead (progress old left answered taken) (progress new after answered taken)
unread_ahead old new left after taken answered e k f = record {
  bytes = [];
  appended = ap (λ (b : ReadAhead). b.unread) e ∙ sym (append-nil old.unread);
  from = consumes_keeps left left after [] (consumes_none left) k;
  ended = λ g. absurd (cc);
  at_end = λ g h. absurd (let i = ap (λ (b : ReadAhead). b.ended) e in cc);
  written = [];
  waits = refl;
  to = appends_none taken;
  events = refl;
}

more_bytes : (old new bytes : List ℕ) → new ≡ old ++ bytes → 0 < length bytes
    → length old < length new
more_bytes old new bytes e h = omega (arith, ap length e, length-append old bytes)

pub reads_ahead : (r : Result Bool ReplayFault) (s : Progress) (new : ReadAhead)
    (left after taken : Option (List ℕ)) (answered : Answered)
    → Ahead s (progress s.block left answered taken) → answered.waiting ≡ []
    → IfOk r (λ some. Refills some s.block new left after) → IfErr r (λ f. f ≡ Read)
    → OnErr r (Keeps left after) → OnErr r (new ≡ s.block) → OnErr r (s.block.ended ≡ false)
    → ReadsAhead r s (progress new after answered taken)
reads_ahead (Ok true) s new left after taken answered a w ok err kept same going = (
  ahead_more s (progress s.block left answered taken) (progress new after answered taken) a
      (refilled_ahead true s.block new left after taken answered ok
      (after_end true s.block new left after ok)),
  more_bytes s.block.unread new.unread ok.bytes ok.appended (ok.came refl).0,
)
reads_ahead (Ok false) s new left after taken answered a w ok err kept same going = (
  ahead_more s (progress s.block left answered taken) (progress new after answered taken) a
      (refilled_ahead false s.block new left after taken answered ok
      (after_end false s.block new left after ok)),
  ok.appended ∙ ap (λ (x : List ℕ). s.block.unread ++ x) (ok.none refl).0
      ∙ append-nil s.block.unread,
  (ok.none refl).1,
)
reads_ahead (Err Read) s new left after taken answered a w ok err kept same going = (
  record {
    ahead = ahead_more s (progress s.block left answered taken)
        (progress new after answered taken) a
        (unread_ahead s.block new left after taken answered same kept going);
    none_wait = w;
    going = ap (λ (b : ReadAhead). b.ended) same ∙ going;
  },
  ap (λ (b : ReadAhead). b.unread) same,
)
reads_ahead r s new left after taken answered a w ok err kept same going = absurd (cc err)

-- a write that failed
pub write_failed_at : (s : Progress) (t : Progress) (count : ℕ)
    → Appends s.taken t.taken (take count s.answered.waiting) → t.left ≡ s.left → WriteFailed s t
write_failed_at s t count to left = record {
  before = s;
  ahead = ahead_none s;
  count = count;
  to = to;
  left = left;
}

pub write_failed_ahead : (r : Result Bool ReplayFault) (e : ReplayFault) (s t : Progress)
    → IsErr r × IsErrAnd r (λ f. f ≡ e) → e ≡ Write
    → (n : ℕ) × Appends s.taken t.taken (take n s.answered.waiting) → t.left ≡ s.left
    → ReadsAhead r s t
write_failed_ahead (Ok b) e s t h w front left = absurd (h.1)
write_failed_ahead (Err f) e s t h w front left =
    subst (λ (x : ReplayFault). FailsAhead x s t) (sym (h.1 ∙ w))
    (write_failed_at s t front.0 front.1 left)

-- What a call for the next line finds -------------------------------------------------------------

not_found : (e : ReplayFault) (n : ℕ) (s m t : Progress) → FailsAhead e m t → Ahead s m
    → IsLineFront n m.block.unread → FailsLine n e s t
not_found Read n s m t h a f = grind (arith, nat_tests, read_failed_more)
not_found Write n s m t h a f = write_failed_more s m t a h
not_found e n s m t h a f = absurd h

pub finds_fault : (r : Result (Option Extent) ReplayFault) (e : ReplayFault) (n : ℕ)
    (s m t : Progress)
    → IsErr r × IsErrAnd r (λ f. f ≡ e) → FailsAhead e m t → Ahead s m
    → IsLineFront n m.block.unread
    → FindsLine n r s t
finds_fault (Ok o) e n s m t h k a f = absurd (h.1)
finds_fault (Err x) e n s m t h k a f = grind (arith, nat_tests, not_found)

last_by : (b : Bool) (n : ℕ) (s t : Progress) → nat_lt 0 (length t.block.unread) ≡ b → Ahead s t
    → t.block.ended ≡ true → length t.block.unread ≤ 256 → has_line_feed t.block.unread ≡ false
    → (0 < length t.block.unread → n ≤ 1000000)
    → FindsLine n (Ok (cond b (Some (record {
      line = length t.block.unread;
      taken = length t.block.unread;
    })) None)) s t
last_by true n s t e a end few f k =
    let some : 0 < length t.block.unread = ltb-true 0 (length t.block.unread) e in (
      a,
      (
        few,
        ap has_line_feed (take_all (length t.block.unread) t.block.unread (omega arith))
            ∙ f,
        inr (refl, refl, some, end),
      ),
      k some,
    )
last_by false n s t e a end few f k =
    let none : length t.block.unread ≤ 0 = ltb-false 0 (length t.block.unread) e in
    (a, empty t.block.unread none, end) where
      empty : (xs : List ℕ) → length xs ≤ 0 → xs ≡ []
      empty [] h = refl
      empty (x ∷ xs) h = absurd (omega arith)

abbrev pub last_extent : List ℕ → Option Extent
last_extent xs = cond (nat_lt 0 (length xs)) (Some (record { line = length xs; taken = length xs }))
    None

pub reads_as : (b d : Bool) (m t : Progress) → b ≡ d → ReadsAhead (Ok b) m t → ReadsAhead (Ok d) m t
reads_as b d m t e h = subst (λ (x : Bool). ReadsAhead (Ok x) m t) e h

pub finds_last : (o : Option Extent) (n : ℕ) (s m t : Progress) → o ≡ last_extent t.block.unread
    → Ahead s m → ReadsAhead (Ok false) m t → length m.block.unread ≤ 256
    → has_line_feed m.block.unread ≡ false → (0 < length m.block.unread → n ≤ 1000000)
    → FindsLine n (Ok o) s t
finds_last o n s m t e a r few f k =
    subst (λ (x : Option Extent). FindsLine n (Ok x) s t) (sym e)
    (last_by (nat_lt 0 (length t.block.unread)) n s t refl (ahead_more s m t a r.0) r.2
    (omega (arith, ap length r.1)) (ap has_line_feed r.1 ∙ f)
    (λ h. k (omega (arith, ap length r.1))))
