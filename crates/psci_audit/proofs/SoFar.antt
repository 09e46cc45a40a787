-- The merged list, entry by entry.
use Rattle.std.specs.Prelude.{◌↔◌, IfOk, OnOk, unwrap_or}
use Rattle.std.proofs.Common.{◌++◌, ◌+◌, ◌-◌, ◌<◌, ◌∙◌, ◌∷◌, ◌≡◌, ◌≤◌, [], ap, arith, Bool, drop}
use Rattle.std.proofs.Common.{Err, false, get_or, inl, inr, length, List, None, Ok, Option, refl}
use Rattle.std.proofs.Common.{Result, reverse, Some, subst, sym, take, true, ℕ}
use Rattle.std.proofs.Math.Seq.{take-length}
use Rattle.std.proofs.lemmas.List.{append-nil, append_assoc, length-reverse, reverse-append}
use Rattle.std.proofs.lemmas.List.{reverse-reverse}
use Rattle.psci_world_spec.specs.declared.said.Record.{Record}
use Rattle.psci_world_spec.specs.psci_board.Board.{BoardValue, IsBoard}
use Rattle.psci_world.specs.Settles.{WorldValue}
use Rattle.psci_world.specs.psci_board.declared.memory.Memory.{Memory as NoMemory}
use Rattle.psci_shared.specs.Places.{CtlEntry, FwEntry}
use Rattle.psci_shared.specs.declared.entry.Entry.{Entry as Booked}
use Rattle.psci_audit.specs.Entries.{Entry, IsLegal}
use Rattle.psci_audit.specs.Told.{IsListOfSafe, IsStep, Tells}
use Rattle.psci_audit.specs.Merged.{AreApart, asked_by, controlled_by, history_of}
use Rattle.psci_audit.specs.Merged.{is_asked_first, IsFirstIllegal, IsFollowed, IsIn, IsJudged}
use Rattle.psci_audit.specs.Merged.{merged, RiseAfter, tickets_of}
use Rattle.psci_audit.specs.declared.fault.AuditFault.{AuditFault}

-- Tickets that rise in two lists, and are in both or not ------------------------------------------

-- what rises after some ticket rises
pub rises : (last : ℕ) (xs : List ℕ) → RiseAfter (Some last) xs → RiseAfter None xs
rises last [] is = tt
rises last (x ∷ xs) is = (tt, is.1)

-- no ticket that rises after another is it, or one below it
not_in : (x last : ℕ) (ys : List ℕ) → RiseAfter (Some last) ys → x ≤ last → IsIn x ys → ⊥
not_in x last [] is le at = at
not_in x last (y ∷ ys) is le (inl e) = absurd (omega (arith, is.0, le, e))
not_in x last (y ∷ ys) is le (inr at) =
    let more : x ≤ y = omega (arith, is.0, le) in not_in x y ys is.1 more at

pub next_one : (x y : ℕ) (xs ys : List ℕ) → x < y → RiseAfter None (y ∷ ys)
    → AreApart xs (y ∷ ys) ↔ AreApart (x ∷ xs) (y ∷ ys)
next_one x y xs ys less rise = (there, λ apart t at. apart t (inr at))
  where
    below : IsIn x (y ∷ ys) → ⊥
    below (inl e) = absurd (omega (arith, less, e))
    below (inr at) = let more : x ≤ y = omega (arith, less) in not_in x y ys rise.1 more at

    there : AreApart xs (y ∷ ys) → AreApart (x ∷ xs) (y ∷ ys)
    there apart t (inl e) at = below (subst (λ u. IsIn u (y ∷ ys)) e at)
    there apart t (inr in_xs) at = apart t in_xs at

-- what goes for one list beside another goes for the other one beside it
turned : (xs ys zs : List ℕ) → AreApart xs ys ↔ AreApart zs ys → AreApart ys xs ↔ AreApart ys zs
turned xs ys zs h = (
  λ apart t on at. h.0 (λ u p q. apart u q p) t at on,
  λ apart t on at. h.1 (λ u p q. apart u q p) t at on,
)

pub same : (x y : ℕ) (xs ys : List ℕ) → x ≡ y → AreApart (x ∷ xs) (y ∷ ys) → ⊥
same x y xs ys e apart = apart x (inl refl) (inl e)

-- Books ----------------------------------------------------------------------------------------

-- all but the first, as a slice has it
abbrev pub tail : {A : Type 0} → List A → List A
tail xs = take (length xs - 1) (drop 1 xs)

all_taken : {A : Type 0} (n : ℕ) (xs : List A) → n ≡ length xs → take n xs ≡ xs
all_taken n xs e = rw e (take-length xs)

pub parts : {A : Type 0} (xs : List A) (x : A) → 0 < length xs → x ≡ get_or xs 0 x
    → xs ≡ x ∷ tail xs
parts [] x some is = absurd (omega (arith, some))
parts (y ∷ ys) x some is =
    ap (λ z. z ∷ ys) (sym is) ∙ ap (λ l. x ∷ l) (sym (all_taken _ ys (omega arith)))

pub both : {P Q R : Type 0} → P ↔ Q → Q ↔ R → P ↔ R
both one other = (λ p. other.0 (one.0 p), λ r. one.1 (other.1 r))

pub next_ones : {W C R V D Q : Type 0} (ones : List (Booked W C R)) (others : List (Booked V D Q))
    (f : Booked W C R) (c : Booked V D Q) → ones ≡ f ∷ tail ones → others ≡ c ∷ tail others
    → f.ticket < c.ticket → RiseAfter None (tickets_of ones) → RiseAfter None (tickets_of others)
    → RiseAfter None (tickets_of (tail ones))
    × (AreApart (tickets_of (tail ones)) (tickets_of others)
    ↔ AreApart (tickets_of ones) (tickets_of others))
next_ones {W = W} {C = C} {R = R} {V = V} {D = D} {Q = Q} ones others f c e d less one other =
    let fs : List (Booked W C R) = tail ones in
    let cs : List (Booked V D Q) = tail others in
    let rise : RiseAfter None (f.ticket ∷ tickets_of fs) =
    subst (λ (l : List (Booked W C R)). RiseAfter None (tickets_of l)) e one in
    let goes : RiseAfter None (c.ticket ∷ tickets_of cs) =
    subst (λ (l : List (Booked V D Q)). RiseAfter None (tickets_of l)) d other in (
      rises f.ticket (tickets_of fs) rise.1,
      subst (λ (l : List (Booked V D Q)). AreApart (tickets_of fs) (tickets_of l)
          ↔ AreApart (tickets_of ones) (tickets_of l)) (sym d)
          (subst (λ (l : List (Booked W C R)). AreApart (tickets_of fs) (c.ticket ∷ tickets_of cs)
          ↔ AreApart (tickets_of l) (c.ticket ∷ tickets_of cs)) (sym e)
          (next_one f.ticket c.ticket (tickets_of fs) (tickets_of cs) less goes)),
    )

pub next_others : {W C R V D Q : Type 0} (ones : List (Booked W C R))
    (others : List (Booked V D Q)) (f : Booked W C R) (c : Booked V D Q)
    → ones ≡ f ∷ tail ones → others ≡ c ∷ tail others → c.ticket < f.ticket
    → RiseAfter None (tickets_of ones) → RiseAfter None (tickets_of others)
    → RiseAfter None (tickets_of (tail others))
    × (AreApart (tickets_of ones) (tickets_of (tail others))
    ↔ AreApart (tickets_of ones) (tickets_of others))
next_others ones others f c e d less one other =
    let next = next_ones others ones c f d e less other one in
    (next.0, turned (tickets_of (tail others)) (tickets_of ones) (tickets_of others) next.1)

pub same_ones : {W C R V D Q : Type 0} (ones : List (Booked W C R)) (others : List (Booked V D Q))
    (f : Booked W C R) (c : Booked V D Q) → ones ≡ f ∷ tail ones → others ≡ c ∷ tail others
    → f.ticket ≡ c.ticket → AreApart (tickets_of ones) (tickets_of others) → ⊥
same_ones {W = W} {C = C} {R = R} {V = V} {D = D} {Q = Q} ones others f c e d is apart =
    same f.ticket c.ticket (tickets_of (tail ones)) (tickets_of (tail others)) is
    (subst (λ (l : List (Booked W C R)). AreApart (tickets_of l)
    (c.ticket ∷ tickets_of (tail others))) e
    (subst (λ (l : List (Booked V D Q)). AreApart (tickets_of ones) (tickets_of l)) d apart))

pub none_here : {W C R : Type 0} (ones : List (Booked W C R)) (others : List ℕ) → length ones < 1
    → AreApart (tickets_of ones) others
none_here [] others few t at on = at
none_here (f ∷ fs) others few t at on = absurd (omega (arith, few))

pub none_there : {V D Q : Type 0} (ones : List ℕ) (others : List (Booked V D Q))
    → length others < 1 → AreApart ones (tickets_of others)
none_there ones [] few t at on = on
none_there ones (c ∷ cs) few t at on = absurd (omega (arith, few))

-- So far ------------------------------------------------------------------------------------------

-- What is done: a legal list, which the records tell, and which what is left makes whole.
pub record IsSoFar (b : BoardValue) (all left : List Entry) (past : List Record) (n : ℕ)
    : Type 0 where
  pub done : List Entry
  pub parts : reverse done ++ left ≡ all
  pub count : length done ≡ n
  pub legal : IsLegal b done
  pub tells : Tells b past done

pub begin : (b : BoardValue) (all : List Entry) (past : List Record) → past ≡ []
    → IsSoFar b all all past 0
begin b all past e =
    record { done = []; parts = refl; count = refl; legal = tt; tells = rw e tt }

shift : (e : Entry) (done left : List Entry)
    → reverse (e ∷ done) ++ left ≡ reverse done ++ (e ∷ left)
shift e done left =
    ap (λ (l : List Entry). l ++ left) (reverse-append (e ∷ []) done)
    ∙ append_assoc (reverse done) (e ∷ []) left

-- one of the two, or memory ran out
abbrev Judges : WorldValue → WorldValue → Entry → Result Bool NoMemory → Type 0
Judges old new e r = IfOk r (λ may. IsStep old new e may)

-- the next entry may follow
goes_on : (all left rest : List Entry) (e : Entry) (old new : WorldValue) (n : ℕ)
    (r : Result Bool NoMemory) → IsSoFar old.board all left old.past n → left ≡ e ∷ rest
    → Judges old new e r → IsFollowed r n None → IsSoFar old.board all rest new.past (n + 1)
goes_on all left rest e old new n (Ok true) so is step none =
    let follow = step so.done so.tells in
    record {
      done = e ∷ so.done;
      parts = shift e so.done rest ∙ rw is at so.parts;
      count = let c = so.count in omega arith;
      legal = (follow.0, so.legal);
      tells = follow.1;
    }
goes_on all left rest e old new n (Ok false) so is step none = absurd (cc)
goes_on all left rest e old new n (Err out) so is step none = absurd (cc)

-- it may not, or memory ran out
stops : (all left rest : List Entry) (e : Entry) (old new : WorldValue) (n : ℕ)
    (r : Result Bool NoMemory) (fault : AuditFault) → IsSoFar old.board all left old.past n
    → left ≡ e ∷ rest → Judges old new e r → IsFollowed r n (Some fault)
    → IsJudged old.board all (Err fault)
stops all left rest e old new n (Ok true) fault so is step some = absurd (cc)
stops all left rest e old new n (Ok false) fault so is step some =
    subst (λ (f : AuditFault). IsJudged old.board all (Err f))
    (sym (ap (λ (o : Option AuditFault). unwrap_or o fault) some))
    (record {
      before = so.done;
      entry = e;
      since = rest;
      parts = rw is at so.parts;
      at = so.count;
      legal = so.legal;
      illegal = step so.done so.tells;
    })
stops all left rest e old new n (Err out) fault so is step some =
    subst (λ (f : AuditFault). IsJudged old.board all (Err f))
    (sym (ap (λ (o : Option AuditFault). unwrap_or o fault) some)) tt

-- What is left of two books --------------------------------------------------------------------

-- this entry of two books is the next one, and these are left of them then
pub record IsNextOf (fs : List FwEntry) (cs : List CtlEntry) (e : Entry) (gs : List FwEntry)
    (ds : List CtlEntry) : Type 0 where
  pub list : merged fs cs ≡ e ∷ merged gs ds
  pub less : length fs + length cs ≡ length gs + length ds + 1

merged_asked : (f : FwEntry) (fs : List FwEntry) (cs : List CtlEntry)
    → is_asked_first (f ∷ fs) cs ≡ true → merged (f ∷ fs) cs ≡ asked_by f ∷ merged fs cs
unfolding merged
merged_asked f fs [] e = refl
merged_asked f fs (c ∷ cs) e = rw e refl

merged_controlled : (fs : List FwEntry) (c : CtlEntry) (cs : List CtlEntry)
    → is_asked_first fs (c ∷ cs) ≡ false → merged fs (c ∷ cs) ≡ controlled_by c ∷ merged fs cs
unfolding merged
merged_controlled [] c cs e = refl
merged_controlled (f ∷ fs) c cs e = rw e refl

one_less : {A : Type 0} (xs : List A) (x : A) → xs ≡ x ∷ tail xs → length xs ≡ length (tail xs) + 1
one_less xs x e = ap length e ∙ omega arith

pub asked_next : {fs : List FwEntry} {cs : List CtlEntry} {f : FwEntry} → fs ≡ f ∷ tail fs
    → is_asked_first fs cs ≡ true → IsNextOf fs cs (asked_by f) (tail fs) cs
asked_next {fs} {cs} {f} e first = record {
  list = ap (λ (l : List FwEntry). merged l cs) e
      ∙ merged_asked f (tail fs) cs
      (sym (ap (λ (l : List FwEntry). is_asked_first l cs) e) ∙ first);
  less = omega (arith, one_less fs f e);
}

pub controlled_next : {fs : List FwEntry} {cs : List CtlEntry} {c : CtlEntry} → cs ≡ c ∷ tail cs
    → is_asked_first fs cs ≡ false → IsNextOf fs cs (controlled_by c) fs (tail cs)
controlled_next {fs} {cs} {c} e first = record {
  list = ap (λ (l : List CtlEntry). merged fs l) e
      ∙ merged_controlled fs c (tail cs)
      (sym (ap (λ (l : List CtlEntry). is_asked_first fs l) e) ∙ first);
  less = omega (arith, one_less cs c e);
}

-- What holds between two entries, on the board of the first world.
pub record IsBetween (b : BoardValue) (all : List Entry) (world : WorldValue)
    (fs : List FwEntry) (cs : List CtlEntry) (n : ℕ) : Type 0 where
  pub board : world.board ≡ b
  pub so_far : IsSoFar b all (merged fs cs) world.past n

pub stopped : {b : BoardValue} {all : List Entry} {old : WorldValue} (new : WorldValue)
    {fs gs : List FwEntry} {cs ds : List CtlEntry} {n : ℕ} {e : Entry} (r : Result Bool NoMemory)
    (fault : AuditFault) → IsBetween b all old fs cs n → IsNextOf fs cs e gs ds
    → Judges old new e r → IsFollowed r n (Some fault) → IsJudged b all (Err fault)
stopped {all = all} {old} new {fs} {gs} {cs} {ds} {n} {e} r fault is next step some =
    subst (λ (x : BoardValue). IsJudged x all (Err fault)) is.board
    (stops all (merged fs cs) (merged gs ds) e old new n r fault
    (subst (λ (x : BoardValue). IsSoFar x all (merged fs cs) old.past n) (sym is.board) is.so_far)
    next.list step some)

-- What holds after an entry, and how much is left.
abbrev IsAfter : BoardValue → List Entry → WorldValue → List FwEntry → List CtlEntry → ℕ → ℕ
    → Type 0
IsAfter b all w fs cs n total =
    IsBetween b all w fs cs (n + 1) × (length fs + length cs + (n + 1) ≡ total)

pub after : {b : BoardValue} {all : List Entry} {old new now : WorldValue}
    {fs gs gs' : List FwEntry} {cs ds ds' : List CtlEntry} {n total : ℕ} {e : Entry}
    (r : Result Bool NoMemory) → now ≡ new → gs ≡ gs' → ds ≡ ds' → IsBetween b all old fs cs n
    → length fs + length cs + n ≡ total → new.board ≡ old.board → IsNextOf fs cs e gs' ds'
    → Judges old new e r → IsFollowed r n None → IsAfter b all now gs ds n total
after {all = all} {old} {new} {fs = fs} {gs' = gs'} {cs} {ds' = ds'} {n} {e = e} r w g d is left
    same next step none =
    rw (w, g, d) (
      record {
        board = same ∙ is.board;
        so_far = subst (λ (x : BoardValue). IsSoFar x all (merged gs' ds') new.past (n + 1))
            is.board
            (goes_on all (merged fs cs) (merged gs' ds') e old new n r
            (subst (λ (x : BoardValue). IsSoFar x all (merged fs cs) old.past n) (sym is.board)
            is.so_far) next.list step none);
      },
      omega (arith, left, next.less),
    )

-- The end --------------------------------------------------------------------------------------

no_entries : (fs : List FwEntry) (cs : List CtlEntry) → length fs + length cs ≡ 0
    → merged fs cs ≡ []
unfolding merged
no_entries [] [] none = refl
no_entries [] (c ∷ cs) none = absurd (omega (arith, none))
no_entries (f ∷ fs) cs none = absurd (omega (arith, none))

-- all is done then
back : (b : BoardValue) (all : List Entry) (w : WorldValue) (fs : List FwEntry)
    (cs : List CtlEntry) (n : ℕ) (is : IsBetween b all w fs cs n) → length fs + length cs ≡ 0
    → is.so_far.done ≡ reverse all
back b all w fs cs n is none =
    let so = is.so_far in
    let whole = rw (no_entries fs cs none, append-nil) at so.parts in
    sym (reverse-reverse so.done) ∙ ap reverse whole

pub ended : {b : BoardValue} {all : List Entry} {w : WorldValue} {fs : List FwEntry}
    {cs : List CtlEntry} {n m : ℕ} → IsBetween b all w fs cs n → length fs + length cs ≡ 0
    → n ≡ m → IsLegal b (reverse all) × (length all ≡ m)
ended {b} {all} {w} {fs} {cs} {n} is none same =
    let done = back b all w fs cs n is none in (
      subst (IsLegal b) done is.so_far.legal,
      sym (length-reverse all) ∙ sym (ap length done) ∙ is.so_far.count ∙ same,
    )

-- the records tell the whole list, and the world is on the board of the first one
pub told : {b : BoardValue} {all : List Entry} {w : WorldValue} {fs : List FwEntry}
    {cs : List CtlEntry} {n : ℕ} → IsBetween b all w fs cs n → length fs + length cs ≡ 0
    → Tells b w.past (reverse all)
told {b} {all} {w} {fs} {cs} {n} is none =
    subst (λ (l : List Entry). Tells b w.past l) (back b all w fs cs n is none) is.so_far.tells

-- a list that is judged legal is the list of a safe run
pub safe : (w b : BoardValue) (fs gs : List FwEntry) (cs ds : List CtlEntry)
    (r : Result ℕ AuditFault) → w ≡ b → fs ≡ gs → cs ≡ ds → IsBoard w
    → IsJudged w (merged fs cs) r
    → ((entries : List Entry) → IsBoard b → IsLegal b entries → IsListOfSafe b entries)
    → OnOk r (IsListOfSafe b (history_of gs ds))
safe w b fs gs cs ds (Ok n) board same also is judged law =
    law (history_of gs ds) (rw board at is) (rw (board, same, also) at judged.0)
safe w b fs gs cs ds (Err fault) board same also is judged law = tt
