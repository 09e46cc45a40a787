-- How a run ends.
use Rattle.std.specs.Io.KnownBytes.{Appends, Consumes, IsAtEnd}
use Rattle.std.specs.Prelude.{codes}
use Rattle.std.proofs.Common.{◌++◌, ◌+◌, ◌<◌, ◌∙◌, ◌∷◌, ◌≡◌, ◌≤◌, [], ap, append-nil}
use Rattle.std.proofs.Common.{append_assoc, arith, Bool, cond, drop, Err, false, inl, inr}
use Rattle.std.proofs.Common.{length, List, None, Ok, Option, refl, Result, Some, subst, suc}
use Rattle.std.proofs.Common.{sym, take, true, ℕ}
use Rattle.std.proofs.Math.Seq.{take-append-add, take-length}
use Rattle.std.proofs.lemmas.List.{length-take-le, take-append-drop, take_all}
use Rattle.psci_board.specs.Grammar.{literal_at}
use Rattle.psci_script.specs.EventText.{Answered, AreWhole, has_line_feed, lines, ReadAhead}
use Rattle.psci_script.specs.Progress.{Ahead, AreSound, FaultyLine, Follows, IsLine, Progress}
use Rattle.psci_script.specs.Progress.{progress, WriteFailed}
use Rattle.psci_script.specs.Script.{board_line, line_said, ok_or}
use Rattle.psci_script.specs.Told.{Account, account, CutShort, Ended, Goes, remaining, ScriptRun}
use Rattle.psci_script.specs.Told.{Unwritten}
use Rattle.psci_script.specs.declared.fault.ReplayFault.{ReplayFault}
use Rattle.psci_script.specs.declared.fault.ReplayFault.TheVariants.{Script}
use Rattle.psci_script.specs.declared.fault.Replayed.{Replayed}
use Rattle.psci_script.specs.declared.fault.ScriptFault.{ScriptFault}
use Rattle.psci_script.specs.declared.fault.ScriptFault.TheVariants.{Line, Long, NoBoard}
use Rattle.psci_script.specs.declared.fault.ScriptFault.TheVariants.{TooMany}
use Rattle.psci_script.specs.declared.transfer.Extent.{Extent}
use Rattle.psci_script.proofs.Finish.{appends_more, by_first, consumes_more, fault_remains}
use Rattle.psci_script.proofs.Finish.{goes_as, goes_on, is_lt, line_long, line_many, no_rest_is}
use Rattle.psci_script.proofs.Finish.{run_still}
use Rattle.psci_script.proofs.Cutting.{lines_last, lines_long, lines_none, lines_some}
use Rattle.psci_script.proofs.Cutting.{lines_whole, Longer}

-- Reading ahead, and lines that are taken one after another ---------------------------------------

-- Reading ahead -------------------------------------------------------------------------------

same_front : (s t : Progress) → Ahead s t → s.block.ended ≡ true → t.block.unread ≡ s.block.unread
same_front s t a e = a.appended ∙ ap (λ (x : List ℕ). s.block.unread ++ x) (a.ended e).1
    ∙ append-nil s.block.unread

pub follows_ahead : (s t : Progress) (rest : List ℕ) → Ahead s t → Follows t.block rest
    → Follows s.block rest
follows_ahead s t rest a f = λ e.
    let h = f (a.ended e).0 in
    (h.0, h.1 ∙ ap (λ (x : List ℕ). take h.0 x) (same_front s t a e))

still_some : (s t : Progress) → Ahead s t → s.block.ended ≡ true → 0 < length t.block.unread
    → 0 < length s.block.unread
still_some s t a e h = omega (arith, h, ap length (same_front s t a e))

pub goes_ahead : (told : Option ScriptRun → List ℕ → Type 0) (run : Option ScriptRun) (n : ℕ)
    (first before : Option (List ℕ)) (s t : Progress) → Ahead s t
    → Goes told run n first before s → Goes told run n first before t
goes_ahead told run n first before s t a k = record {
  whole = k.whole;
  from = subst (λ (x : List ℕ). Consumes first t.left x)
      (append_assoc k.whole s.block.unread a.bytes
      ∙ ap (λ (x : List ℕ). k.whole ++ x) (sym a.appended))
      (consumes_more first s.left t.left (k.whole ++ s.block.unread) a.bytes k.from a.from);
  at_end = a.at_end k.at_end;
  written = k.written ++ a.written;
  to = appends_more before s.taken t.taken k.written a.written k.to a.to;
  is_told = subst (told run) (ap (λ (x : List ℕ). k.written ++ x) a.waits
      ∙ sym (append_assoc k.written a.written t.answered.waiting)) k.is_told;
  comes = λ rest f. k.comes rest (follows_ahead s t rest a f);
  none = k.none;
  events = a.events ∙ k.events;
  lines = λ f. k.lines (λ e. still_some s t a e (f (a.ended e).0));
}

-- Taking a line -------------------------------------------------------------------------------

abbrev pub skipped : ReadAhead → Extent → ReadAhead
skipped block e = record { unread = drop e.taken block.unread; ended = block.ended }

no_bytes : (n : ℕ) (xs : List ℕ) → xs ≡ [] → take n xs ≡ []
no_bytes n xs e = ap (λ (x : List ℕ). take n x) e ∙ take_all n [] (omega arith)

last_alone : (l : List ℕ) → has_line_feed l ≡ false → 0 < length l → lines l ≡ l ∷ lines []
last_alone [] h k = absurd (omega arith)
last_alone (b ∷ bs) h k = lines_last b bs h
    ∙ ap (λ (x : List (List ℕ)). (b ∷ bs) ∷ x) (sym lines_none)

drop_all_of : (n : ℕ) (xs : List ℕ) → n ≡ length xs → drop n xs ≡ []
drop_all_of n xs e = ap (λ (m : ℕ). drop m xs) e ∙ drop_own xs where
  drop_own : (ys : List ℕ) → drop (length ys) ys ≡ []
  drop_own [] = refl
  drop_own (y ∷ ys) = drop_own ys

front_of : (n m : ℕ) (xs : List ℕ) → m ≡ n + 1 → n < length xs → xs ≡ take n xs ++ 10 ∷ drop m xs
    → take m xs ≡ take n xs ++ 10 ∷ []
front_of n m xs e h s =
    let l : length (take n xs) ≡ n = length-take-le n xs (omega arith) in
    let k : m ≡ length (take n xs) + 1 = omega arith in
    ap (λ (x : List ℕ). take m x) s
    ∙ ap (λ (j : ℕ). take j (take n xs ++ 10 ∷ drop m xs)) k
    ∙ take-append-add (take n xs) (10 ∷ drop m xs) 1

pub line_first : (e : Extent) (block : ReadAhead) (rest : List ℕ) → IsLine e block
    → Follows (skipped block e) rest
    → lines (take e.taken block.unread ++ rest) ≡ take e.line block.unread ∷ lines rest
line_first e block rest (few, feeds, inl w) f =
    ap (λ (x : List ℕ). lines (x ++ rest)) (front_of e.line e.taken block.unread w.0 w.1 w.2)
    ∙ ap lines (append_assoc (take e.line block.unread) (10 ∷ []) rest)
    ∙ lines_whole (take e.line block.unread) rest feeds
line_first e block rest (few, feeds, inr w) f =
    let g = f w.3 in
    let end : rest ≡ [] = g.1
    ∙ no_bytes g.0 (drop e.taken block.unread) (drop_all_of e.taken block.unread (w.0 ∙ w.1)) in
    let some : 0 < length (take e.line block.unread) =
    omega (arith, length-take-le e.line block.unread, w.1, w.2) in
    ap (λ (x : List ℕ). lines (take e.taken block.unread ++ x)) end
    ∙ ap lines (append-nil (take e.taken block.unread))
    ∙ ap (λ (m : ℕ). lines (take m block.unread)) w.0
    ∙ last_alone (take e.line block.unread) feeds some
    ∙ ap (λ (x : List ℕ). take e.line block.unread ∷ lines x) (sym end)

pub line_follows : (e : Extent) (block : ReadAhead) (rest : List ℕ) → e.taken ≤ length block.unread
    → Follows (skipped block e) rest → Follows block (take e.taken block.unread ++ rest)
line_follows e block rest h f = λ t.
    let g = f t in
    let l : length (take e.taken block.unread) ≡ e.taken =
    length-take-le e.taken block.unread h in (
      length (take e.taken block.unread) + g.0,
      ap (λ (x : List ℕ). take e.taken block.unread ++ x) g.1
          ∙ sym (take-append-add (take e.taken block.unread) (drop e.taken block.unread) g.0)
          ∙ ap (λ (x : List ℕ). take (length (take e.taken block.unread) + g.0) x)
          (take-append-drop e.taken block.unread),
    )

no_length : (xs : List ℕ) → xs ≡ [] → 0 < length xs → ⊥
no_length [] e h = omega (arith, h)
no_length (x ∷ xs) e h = cc

-- whole lines, once a line was taken that was not the last one of the script without a line feed
pub whole_line : (whole : List ℕ) (e : Extent) (block : ReadAhead) → IsLine e block
    → (block.ended ≡ true → 0 < length (drop e.taken block.unread))
    → AreWhole (whole ++ take e.taken block.unread)
whole_line whole e block (few, feeds, inl w) f = inr (
  whole ++ take e.line block.unread,
  ap (λ (x : List ℕ). whole ++ x) (front_of e.line e.taken block.unread w.0 w.1 w.2)
      ∙ sym (append_assoc whole (take e.line block.unread) (10 ∷ [])),
)
whole_line whole e block (few, feeds, inr w) f = absurd (no_length (drop e.taken block.unread)
    (drop_all_of e.taken block.unread (w.0 ∙ w.1)) (f w.3))

pub taken_within : (e : Extent) (block : ReadAhead) → IsLine e block → e.taken ≤ length block.unread
taken_within e block (few, feeds, inl w) = omega (arith, w.0, w.1)
taken_within e block (few, feeds, inr w) = omega (arith, w.0, w.1)

-- one line more was taken, and this run was told of it and of those before it
pub goes_line : (told : Option ScriptRun → List ℕ → Type 0) (run : Option ScriptRun)
    (later : ScriptRun) (n : ℕ) (first before : Option (List ℕ)) (block : ReadAhead)
    (left taken : Option (List ℕ)) (old new : Answered) (e : Extent) → IsLine e block
    → Goes told run n first before (progress block left old taken)
    → ((ls : List (List ℕ)) → remaining run n (take e.line block.unread ∷ ls)
    ≡ remaining (Some later) (n + 1) ls)
    → ((text : List ℕ) → told run (text ++ old.waiting) → told (Some later) (text ++ new.waiting))
    → new.events ≡ length later.past
    → Goes told (Some later) (n + 1) first before (progress (skipped block e) left new taken)
goes_line told run later n first before block left taken old new e i k line more ev = record {
  whole = k.whole ++ take e.taken block.unread;
  from = subst (λ (x : List ℕ). Consumes first left x)
      (ap (λ (x : List ℕ). k.whole ++ x) (sym (take-append-drop e.taken block.unread))
      ∙ sym (append_assoc k.whole (take e.taken block.unread) (drop e.taken block.unread)))
      k.from;
  at_end = k.at_end;
  written = k.written;
  to = k.to;
  is_told = more k.written k.is_told;
  comes = λ rest f.
      ap account (append_assoc k.whole (take e.taken block.unread) rest)
      ∙ k.comes (take e.taken block.unread ++ rest)
      (line_follows e block rest (taken_within e block i) f)
      ∙ ap (remaining run n) (line_first e block rest i f)
      ∙ line (lines rest);
  none = λ x. absurd (cc);
  events = ev;
  lines = λ f. whole_line k.whole e block i f;
}

-- Ends --------------------------------------------------------------------------------------------

pub follows_whole : (block : ReadAhead) (rest : List ℕ) → (block.ended ≡ true → rest ≡ [])
    → Follows block (block.unread ++ rest)
follows_whole block rest f = λ t. (
  length block.unread,
  ap (λ (x : List ℕ). block.unread ++ x) (f t) ∙ append-nil block.unread
      ∙ sym (take-length block.unread),
)

-- what was read, and what follows it, comes out so
come_out : (told : Option ScriptRun → List ℕ → Type 0) (run : Option ScriptRun) (n : ℕ)
    (first before : Option (List ℕ)) (s : Progress) (k : Goes told run n first before s)
    (rest : List ℕ) → (s.block.ended ≡ true → rest ≡ [])
    → account ((k.whole ++ s.block.unread) ++ rest)
    ≡ remaining run n (lines (s.block.unread ++ rest))
come_out told run n first before s k rest f =
    ap account (append_assoc k.whole s.block.unread rest)
    ∙ k.comes (s.block.unread ++ rest) (follows_whole s.block rest f)

-- and to this end
pub ended_by : (told : Option ScriptRun → List ℕ → Type 0) (run : Option ScriptRun) (n : ℕ)
    (first before : Option (List ℕ)) (s : Progress) (end : Result Replayed ReplayFault)
    → Goes told run n first before s
    → ((rest : List ℕ) → (s.block.ended ≡ true → rest ≡ [])
    → remaining run n (lines (s.block.unread ++ rest)) ≡ record { run = run; end = end })
    → Ended told end first before s
ended_by told run n first before s end k h = record {
  read = k.whole ++ s.block.unread;
  from = k.from;
  at_end = k.at_end;
  written = k.written;
  to = k.to;
  run = run;
  is_told = k.is_told;
  comes = λ rest f. come_out told run n first before s k rest f ∙ h rest f;
}

-- nothing follows
nothing_more : (run : Option ScriptRun) (n : ℕ) (s : Progress) (rest : List ℕ)
    → s.block.unread ≡ [] → s.block.ended ≡ true → (s.block.ended ≡ true → rest ≡ [])
    → remaining run n (lines (s.block.unread ++ rest)) ≡ remaining run n []
nothing_more run n s rest u e f =
    ap (remaining run n) (ap lines (ap (λ (x : List ℕ). x ++ rest) u ∙ f e) ∙ lines_none)

pub ends_well : (told : Option ScriptRun → List ℕ → Type 0) (run : ScriptRun) (n : ℕ)
    (first before : Option (List ℕ)) (s : Progress) → Goes told (Some run) n first before s
    → s.block.unread ≡ [] → s.block.ended ≡ true
    → Ended told (Ok (record { lines = n; events = s.answered.events })) first before s
ends_well told run n first before s k u e =
    ended_by told (Some run) n first before s
    (Ok (record { lines = n; events = s.answered.events })) k
    (λ rest f. nothing_more (Some run) n s rest u e f ∙ no_rest_is run n
    ∙ ap (λ (m : ℕ). let a : Account = record {
      run = Some run;
      end = Ok (record { lines = n; events = m });
    } in a) (sym k.events))

pub ends_empty : (told : Option ScriptRun → List ℕ → Type 0)
    (first before : Option (List ℕ)) (s : Progress) → Goes told None 0 first before s
    → s.block.unread ≡ [] → s.block.ended ≡ true
    → Ended told (Err (Script 1 NoBoard)) first before s
ends_empty told first before s k u e =
    ended_by told None 0 first before s (Err (Script 1 NoBoard)) k
    (λ rest f. nothing_more None 0 s rest u e f)

pub cut_front : (n : ℕ) (u rest : List ℕ) → n < length u → has_line_feed (take (suc n) u) ≡ false
    → Longer (take (suc n) u) (lines (u ++ rest))
cut_front n [] rest h f = absurd (omega arith)
cut_front n (b ∷ bs) rest h f =
    subst (λ (x : List ℕ). Longer (b ∷ take n bs) (lines x))
    (ap (λ (x : List ℕ). b ∷ x) (sym (append_assoc (take n bs) (drop n bs) rest)
    ∙ ap (λ (x : List ℕ). x ++ rest) (take-append-drop n bs)))
    (lines_long b (take n bs) (drop n bs ++ rest) f)

any_front : (u rest : List ℕ) → 0 < length u → Longer [] (lines (u ++ rest))
any_front [] rest h = absurd (omega arith)
any_front (b ∷ bs) rest h = lines_some b (bs ++ rest)

-- a line at fault, by the front of it that was read
faulty_line : (run : Option ScriptRun) (n : ℕ) (l : List ℕ) (ls : List (List ℕ))
    (fault : ScriptFault) → line_said (n + 1) l ≡ Err fault
    → (run ≡ None → board_line l ≡ Err fault)
    → (run ≡ None → n ≡ 0)
    → remaining run n (l ∷ ls) ≡ record { run = run; end = Err (Script (n + 1) fault) }
faulty_line None n l ls fault e f z =
    ap (λ r. by_first r ls) (f refl)
    ∙ ap (λ (m : ℕ). let a : Account = record { run = None; end = Err (Script (m + 1) fault) } in a)
    (sym (z refl))
faulty_line (Some run) n l ls fault e f z = fault_remains run n l ls fault e

board_long : (l : List ℕ) → 256 < length l → board_line l ≡ Err Long
board_long l h = ap (λ (t : Bool). cond t (Err Long)
    (ok_or (literal_at (codes "board ") l) NoBoard)) (is_lt 256 (length l) h)

pub ends_faulty : (told : Option ScriptRun → List ℕ → Type 0) (run : Option ScriptRun) (n : ℕ)
    (first before : Option (List ℕ)) (s : Progress) (fault : ScriptFault)
    → (run ≡ None → n ≡ 0) → Goes told run n first before s → FaultyLine (n + 1) fault s
    → Ended told (Err (Script (n + 1) fault)) first before s
ends_faulty told run n first before s TooMany z k h =
    ended_by told run n first before s (Err (Script (n + 1) TooMany)) k
    (λ rest f. let c = any_front s.block.unread rest h.1 in
    ap (remaining run n) c.is
    ∙ faulty_line run n c.first c.others TooMany (line_many (n + 1) c.first h.0)
    (λ e. absurd (let m = z e in let r : 1000000 < n + 1 = h.0 in omega (arith, m, r))) z)
ends_faulty told run n first before s Long z k h =
    let l : length (take 257 s.block.unread) ≡ 257 =
    length-take-le 257 s.block.unread (omega arith) in
    ended_by told run n first before s (Err (Script (n + 1) Long)) k
    (λ rest f. let c = cut_front 256 s.block.unread rest h.1 h.2 in
    let m : 256 < length c.first =
    (let r : length (take 257 s.block.unread) ≤ length c.first = c.long in omega arith) in
    ap (remaining run n) c.is
    ∙ faulty_line run n c.first c.others Long (line_long (n + 1) c.first h.0 m)
    (λ e. board_long c.first m) z)
ends_faulty told run n first before s Line z k h = absurd h
ends_faulty told run n first before s NoBoard z k h = absurd h

-- a line that ends the script by what it says
pub ends_line : (told : Option ScriptRun → List ℕ → Type 0) (run : Option ScriptRun) (n : ℕ)
    (first before : Option (List ℕ)) (s : Progress) (end : Result Replayed ReplayFault) (e : Extent)
    → Goes told run n first before s → IsLine e s.block
    → ((ls : List (List ℕ)) → remaining run n (take e.line s.block.unread ∷ ls)
    ≡ record { run = run; end = end })
    → Ended told end first before s
ends_line told run n first before s end e k i h =
    ended_by told run n first before s end k
    (λ rest f. ap (remaining run n)
    (ap lines (ap (λ (x : List ℕ). x ++ rest) (sym (take-append-drop e.taken s.block.unread))
    ∙ append_assoc (take e.taken s.block.unread) (drop e.taken s.block.unread) rest)
    ∙ line_first e s.block (drop e.taken s.block.unread ++ rest) i
    (follows_whole (skipped s.block e) rest f))
    ∙ h (lines (drop e.taken s.block.unread ++ rest)))

-- the lines that were taken, alone
alone : (told : Option ScriptRun → List ℕ → Type 0) (run : Option ScriptRun) (n : ℕ)
    (first before : Option (List ℕ)) (s : Progress) (k : Goes told run n first before s)
    → account k.whole ≡ remaining run n []
alone told run n first before s k =
    ap account (sym (append-nil k.whole)) ∙ k.comes [] (λ t. (0, refl))
    ∙ ap (remaining run n) lines_none

are_sound : (told : Option ScriptRun → List ℕ → Type 0) (run : Option ScriptRun) (n : ℕ)
    (first before : Option (List ℕ)) (s : Progress) → (run ≡ None → n ≡ 0)
    → (k : Goes told run n first before s) → AreSound n k.whole
are_sound told None n first before s z k = inl (z refl, k.none refl)
are_sound told (Some run) n first before s z k = inr (
  length run.past,
  ap (λ (a : Account). a.end) (alone told (Some run) n first before s k ∙ no_rest_is run n),
)

pub stopped : (told : Option ScriptRun → List ℕ → Type 0) (Rest : ℕ → List ℕ → Type 0)
    (run : Option ScriptRun) (n : ℕ) (first before : Option (List ℕ)) (s : Progress)
    → (run ≡ None → n ≡ 0) → Goes told run n first before s
    → (s.block.ended ≡ true → (run ≡ None → ⊥) → 0 < length s.block.unread)
    → Rest (n + 1) s.block.unread → CutShort told Rest first before s
stopped told Rest run n first before s z k f h = record {
  whole = k.whole;
  lines = are_whole run k f;
  count = n;
  sound = are_sound told run n first before s z k;
  part = s.block.unread;
  fits = h;
  from = k.from;
  at_end = k.at_end;
  written = k.written;
  to = k.to;
  run = run;
  is_told = k.is_told;
  is_run = ap (λ (a : Account). a.run) (alone told run n first before s k) ∙ run_still run n;
  more = λ rest g. goes_as run _ _
      (ap (λ (a : Account). a.run) (come_out told run n first before s k rest g))
      (goes_on run n (lines (s.block.unread ++ rest)));
} where
  are_whole : (r : Option ScriptRun) (j : Goes told r n first before s)
      → (s.block.ended ≡ true → (r ≡ None → ⊥) → 0 < length s.block.unread)
      → AreWhole j.whole
  are_whole None j g = inl (j.none refl)
  are_whole (Some r) j g = j.lines (λ e. g e (λ x. absurd (cc)))

pub failed : (told : Option ScriptRun → List ℕ → Type 0) (run : Option ScriptRun) (n : ℕ)
    (first before : Option (List ℕ)) (s t : Progress)
    → Goes told run n first before s → WriteFailed s t
    → Unwritten told first before t.left t.taken
failed told run n first before s t k d =
    let m = d.before in
    let j = goes_ahead told run n first before s m d.ahead k in
    record {
      read = j.whole ++ m.block.unread;
      from = subst (λ (x : Option (List ℕ)). Consumes first x (j.whole ++ m.block.unread))
          (sym d.left) j.from;
      ended = m.block.ended;
      at_end = λ e. subst IsAtEnd (sym d.left) (j.at_end e);
      run = run;
      text = j.written ++ m.answered.waiting;
      is_told = j.is_told;
      count = length j.written + d.count;
      to = subst (λ (x : List ℕ). Appends before t.taken x)
          (sym (take-append-add j.written m.answered.waiting d.count))
          (appends_more before m.taken t.taken j.written
          (take d.count m.answered.waiting) j.to d.to);
      more = λ rest g. goes_as run _ _
          (ap (λ (a : Account). a.run) (come_out told run n first before m j rest g))
          (goes_on run n (lines (m.block.unread ++ rest)));
    }
