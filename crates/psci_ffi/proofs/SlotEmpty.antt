-- `empty` moves two fields, and an empty slot owns no more than they do.
use Rattle.std.specs.Prelude.{None, Option, Some}
use Rattle.std.specs.Global.{Global}
use Rattle.std.proofs.raw_atomic.Walks.{proved_at}
use Rattle.std_heap.specs.contracts.Global as Heap
use Rattle.std_heap.specs.contracts.GlobalAllocator.TheImpl.{dict, ghosts}
use Rattle.core.proofs.alloc.Calls.{Al, handle_tells, α}
use Rattle.std_alloc.proofs.BoxSteps.Form.{B, Bx}
use Rattle.std_heap.proofs.Global.TheLaws as heap
use base.Fml.{Fml, fsep, ftrue}
use base.Logic.{emp, ent, id⊢}
use contract.Monad.{fact}
use contract.Running.{Running, tables}
use denote.Builtin.{RawPtr}
use denote.Exit.{hidden, under, yes}
use denote.Memory.{lone}
use denote.Param.Laws.{Laws}
use denote.RattleType.{RattleType, Valss, owns}
use denote.RawPtr.{Ptr, ptr_val, rawptr_Lawful}
use denote.Signature.{plain, types_at}
use denote.Steps.{nothing}
use denote.Struct.Field.{Field, RawPtr-field, rows}
use denote.Struct.Owning.{Owning, row, shape}
use denote.Struct.Struct.{Struct, exits_of, layout, within}
use denote.Struct.Values.{Values, intos}
use denote.Triple.Clauses.{Clauses, Ended, closing}
use denote.Triple.Spec.{Meets}
use denote.Triple.Walked.{Goes-dropped, Stays, ends_at, says, stay_dropped, walk_of}
use lib.Dec.{T}
use mathlib.Core.Bool.{◌&&◌, Bool, false, true}
use mathlib.Core.List.{◌++◌, ◌∷◌, List, []}
use mathlib.Core.Path.{◌≡◌, ap, refl, subst, sym}
use mir.Syntax.{Callee, Fn, Ty, aggregate, assign, copy, dnil, impl, local, place, return, seq}
use mir.Syntax.{tnil, ty_ptr, value_local}
use mir.Val.{Val, vcons, vnil, vstruct}
use prog.Model.{Model}
use prog.Wp.{Calls, Closed, Loops, WpFn}
use seplogic.Ra.Ura.{Ura}
use types.ByLocal.{alloc_all, free_all, get, look_at, pass_all, sets}
use types.Kit.{◌$◌, ◌∵◌, ◌⊛◌, !, Item, by, done, drop, feq_i, feq_l, fjoin, fpack, fsplit, join}
use types.Kit.{keep, move, qed, raw, split, suffices, use1, ‵}
use types.Logic.{Logic, sem}
use types.Part.{agg}
use types.Run.{and_then, enter, no_more, returns}
use Rattle.psci_ctl.specs.contracts.controller.Controller as Controller
use Rattle.psci_ctl.proofs.controller.Controller.TheLaws as controller-laws
use Rattle.psci_ffi.specs.Slots.{IsFilled, owns_kept}
use Rattle.psci_ffi.specs.contracts.controller_place.ControllerSlot as ControllerSlot
use Rattle.psci_ffi.specs.contracts.guest.Guest as Guest
use Rattle.psci_ffi.specs.contracts.guest.GuestSlot as GuestSlot
use Rattle.psci_ffi.specs.contracts.held.Held as Held
use Rattle.psci_ffi.specs.contracts.place.Parts as Parts
use Rattle.psci_ffi.specs.contracts.poller.PollerSlot as PollerSlot
use Rattle.psci_ffi.specs.contracts.place.Slot as Slot
use Rattle.psci_ffi.specs.contracts.poller.Watch as Watch
use Rattle.psci_ffi.proofs.guest.Guest.TheLaws as guest-laws
use Rattle.psci_ffi.proofs.held.Held.TheLaws as held-laws
use Rattle.psci_ffi.proofs.poller.Watch.TheLaws as watch-laws

-- Slot form ---------------------------------------------------------------------------------------
-- A slot, whatever it keeps, under short names. The four slots differ in what they box and in
-- their names, so each proof about them is one over a `Form`, cited at the forms of `SlotForms`.

-- a type of one machine value, written so that this is seen of a type that is not known
abbrev pub single : RattleType → RattleType
single R = record R { mir = lone R.mir ∷ [] }

-- what a slot's value is made of: an address, a handle of the heap, and what is kept
abbrev pub Parted : RattleType → Type 0
Parted R = Ptr × Global × Option R.Denot

-- of these the machine has two
abbrev two : List Field
two = RawPtr-field ∷ Heap.the_field ∷ []

abbrev words : {A : Type 0} → Ptr × Global × A → Values two
words m = (m.0, (m.1, tt))

-- what the proofs have to know of a slot
pub record Form : Type 2 where
  -- the type that it boxes
  pub inner : RattleType
  pub laws : Laws (single inner)
  -- its own type, the parts of a value of it, and the value of these parts
  pub type : Owning
  pub parts : type.D → Parted inner
  pub made : Parted inner → type.D
  pub made_is : (m : Parted inner) → parts (made m) ≡ m

-- the heap, as an allocator
abbrev global : Al
global = record {
  row = Heap.the_row;
  laws = heap.the_row_laws;
  g = ghosts;
  d = dict;
  drops = impl [] tnil dnil;
}

module _ (F : Form) where
  -- what is boxed, the box, and the box as its parts
  abbrev pub X : RattleType
  X = single F.inner

  abbrev pub E : Bx
  E = record { row = X; laws = F.laws; al = global }

  abbrev pub P : RattleType
  P = Parts.the_row X Heap.the_row ghosts

  -- the slot, as its generated modules have it
  abbrev pub slot : Owning
  slot = record {
    name = F.type.name;
    args = [];
    types = [];
    parts = two;
    D = F.type.D;
    as_values = λ s. words (F.parts s);
    coded = F.type.coded;
    heap = λ s. owns_kept X (F.parts s).1 (F.parts s).0 (F.parts s).2;
    exit = λ k. hidden (under (λ s. intos two (words (F.parts s))) (exits_of k (rows two)));
    shr_at = F.type.shr_at;
  }

  abbrev pub S : RattleType
  S = row slot

  abbrev pub slot_ty : Ty
  slot_ty = layout (shape slot)

  -- what a slot of these parts owns
  abbrev pub owned : Parted X → List Val → Fml
  owned m vs = fsep ((Struct (shape slot)).own_val (intos two (words m)) vs)
      (owns_kept X m.1 m.0 m.2)

  abbrev pub kept_in : S.Denot → Option X.Denot
  kept_in s = (F.parts s).2

  -- the slot with this in it
  abbrev pub filled : S.Denot → X.Denot → S.Denot
  filled s x = F.made ((F.parts s).0, (F.parts s).1, Some x)

abbrev pub value_of : {A : Type 0} (k : Option A) → IsFilled k → A
value_of None full = absurd full
value_of (Some x) full = x

pub is_some : {A : Type 0} (k : Option A) (full : IsFilled k) → k ≡ Some (value_of k full)
is_some None full = absurd full
is_some (Some x) full = refl

module _ (F : Form) {M : Type 1} {𝓤 : Ura M} (𝓛 : Logic 𝓤) where
  -- a slot that is made of these parts owns what they own
  pub puts : (m : Parted (X F)) (vs : List Val)
      → ent 𝓤 (sem 𝓛 (owned F m vs)) (sem 𝓛 ((S F).own_val (F.made m) vs))
  puts m vs = subst (λ (n : Parted (X F)). ent 𝓤 (sem 𝓛 (owned F m vs)) (sem 𝓛 (owned F n vs)))
      (sym (F.made_is m)) (id⊢ 𝓤 _)

  -- a full slot owns what the box owns
  pub opened : (p : Ptr) (a : Global) (k : Option (X F).Denot) (full : IsFilled k) (vs : List Val)
      → ent 𝓤 (sem 𝓛 (owned F (p, a, k) vs))
      (sem 𝓛 ((B (E F)).own_val (record { ptr = p; alloc = a; value = value_of k full }) vs))
  opened p a None full vs = absurd full
  opened p a (Some x) full vs = id⊢ 𝓤 _

-- Slot empty --------------------------------------------------------------------------------------

both_tt : (x y : Bool) → T x → T y → T (x && (y && true))
both_tt true true s t = tt
both_tt true false s t = absurd t
both_tt false y s t = absurd s

module _ (F : Form) where
  abbrev pub function : Fn
  function = record {
    lifetimes = 0;
    outlives = [];
    ty_params = [];
    givens = 0;
    params = 2;
    locals = local (slot_ty F) value_local ∷ local ty_ptr value_local
        ∷ local (α (E F).al) value_local ∷ [];
    body = seq (assign (place 0 []) (aggregate (copy (place 1 []) ∷ copy (place 2 []) ∷ [])))
        return;
  }

  abbrev pub ended : Ended
  ended = record {
    signature = record {
      lifetimes = 0;
      outlives = [];
      params = plain (λ _. RawPtr) ∷ plain (λ _. Heap.the_row) ∷ [];
      result = plain (λ _. S F);
    };
    kept = (yes, (yes, tt));
  }

  abbrev stayed : Stays ended.signature.params ended.kept
  stayed = (
    stay_dropped (plain (λ _. RawPtr)) yes,
    (stay_dropped (plain (λ _. Heap.the_row)) yes, tt),
  )

  module _ {M : Type 1} {𝓤 : Ura M} (𝓛 : Logic 𝓤) where
    open 𝓛 use {H}

    abbrev pub clauses : Clauses 𝓤 ended
    clauses κs a = record {
      ghost = Unit {0};
      requires = λ _. emp 𝓤;
      ensures = λ _ r _. fact 𝓤 (kept_in F r ≡ None);
    }

    module _ (C : Calls 𝓤 H) (Λ : Loops 𝓤 H) where
      walk : (z : (walk_of 𝓛 ended stayed clauses).Ghost)
          → ent 𝓤 ((walk_of 𝓛 ended stayed clauses).pre z)
          (WpFn 𝓤 H C Λ function (z.0.4.0 ++ (z.0.4.1.0 ++ []))
          ((walk_of 𝓛 ended stayed clauses).post z))
      walk z =
          let Post = (walk_of 𝓛 ended stayed clauses).post z in
          let p = z.0.3.0 in let a = z.0.3.1.0 in
          let made : (S F).Denot = F.made (p, a, None) in
          qed 𝓛 ((‵ ftrue ⊛ ‵ (owns (types_at ended.signature.params tt) z.0.3 z.0.4))
          ∷ raw (emp 𝓤) ∷ []) ∵
          split ! $ drop ! $ fsplit ! $ feq_l ! (λ ep. fsplit ! $
          handle_tells (E F).al ! a z.0.4.1.0 (λ hv ea fa. keep ! (0 ∷ []) $
          let w = vstruct (vcons (ptr_val p) (vcons hv vnil)) in
          let pt = (rawptr_Lawful 𝓛).typed p (ptr_val p ∷ []) refl in
          let Γ : List (Item 𝓤) = ‵ ((Heap.the_row).own_val a (hv ∷ [])) ∷ [] in
          by ! (subst (λ (us : List Val). ent 𝓤 (types.Kit.⋆ 𝓛 Γ)
          (WpFn 𝓤 H C Λ function (us ++ (z.0.4.1.0 ++ [])) Post)) (sym ep)
          (subst (λ (us : List Val). ent 𝓤 (types.Kit.⋆ 𝓛 Γ)
          (WpFn 𝓤 H C Λ function (ptr_val p ∷ (us ++ [])) Post)) (sym ea)
          (qed 𝓛 Γ ∵ enter ! C Λ function (ptr_val p ∷ hv ∷ []) _ $
          alloc_all ! (λ ls. pass_all ! refl (pt.0, (fa, tt)) $
          sets ! (agg ! (and_then ! (get ! refl) (and_then ! (get ! refl) (no_more !)))) refl
          (both_tt _ _ pt.0.0 fa.0, (pt.0.1, (fa.1, tt))) $
          returns ! (look_at ! 0 refl) $ free_all ! refl $
          nothing ! $ move ! (1 ∷ 0 ∷ []) $ fjoin ! $
          feq_i ! (List Val) (ptr_val p ∷ []) (ptr_val p ∷ []) refl $ fjoin ! $
          feq_i ! (List Val) (w ∷ []) (w ∷ []) refl $ fjoin ! $
          fpack ! (Valss (RawPtr ∷ Heap.the_row ∷ []))
          (within (shape (slot F)) (p, (((tt, tt), tt), tt)) (w ∷ []))
          (ptr_val p ∷ [], (hv ∷ [], tt)) $ nothing ! $ move ! (1 ∷ 0 ∷ []) $ fjoin ! $
          use1 𝓛 (‵ ((S F).own_val made (w ∷ []))) (puts F 𝓛 (p, a, None) (w ∷ [])) $
          suffices ! _ (ends_at 𝓛 ended stayed clauses z w made (tt, (tt, tt)) (tt, (tt, tt))) $
          says ! (ap (λ m. m.2) (F.made_is (p, a, None))) $
          nothing ! $ nothing ! $ fjoin ! $ nothing ! $ fjoin ! $ join ! $
          nothing ! $ join ! $ done !))))))

    pub met : (𝓜 : Model 𝓤 H) (𝓡 : Running 𝓤 H 𝓜) (k : Callee)
        → Closed 𝓤 H (tables 𝓤 H 𝓜 𝓡 𝓡.env).C (tables 𝓤 H 𝓜 𝓡 𝓡.env).Λ k function
        → Meets 𝓛 ended.signature (𝓡.run (𝓡.env k)) (closing 𝓛 ended clauses)
    met 𝓜 𝓡 k unfolded =
        let goes = Goes-dropped 𝓛 0 in
        proved_at 𝓛 ended stayed clauses 𝓜 𝓡 (
          goes (plain (λ _. RawPtr)) yes (λ κs x f. refl),
          (goes (plain (λ _. Heap.the_row)) yes (λ κs x f. refl), tt),
        ) k function unfolded
        (λ z are. walk (tables 𝓤 H 𝓜 𝓡 𝓡.env).C (tables 𝓤 H 𝓜 𝓡 𝓡.env).Λ z)

-- The four slots ----------------------------------------------------------------------------------

-- of a firmware
abbrev pub firmware : Form
firmware = record {
  inner = Held.the_row;
  laws = held-laws.the_row_laws;
  type = Slot.the_type;
  parts = λ s. (s.ptr, s.alloc, s.kept);
  made = λ m. record { ptr = m.0; alloc = m.1; kept = m.2 };
  made_is = λ m. refl;
}

-- of a power controller
abbrev pub controller : Form
controller = record {
  inner = Controller.the_row;
  laws = controller-laws.the_row_laws;
  type = ControllerSlot.the_type;
  parts = λ s. (s.ptr, s.alloc, s.kept);
  made = λ m. record { ptr = m.0; alloc = m.1; kept = m.2 };
  made_is = λ m. refl;
}

-- of the power of a guest
abbrev pub guest : Form
guest = record {
  inner = Guest.the_row;
  laws = guest-laws.the_row_laws;
  type = GuestSlot.the_type;
  parts = λ s. (s.ptr, s.alloc, s.kept);
  made = λ m. record { ptr = m.0; alloc = m.1; kept = m.2 };
  made_is = λ m. refl;
}

-- of one who polls
abbrev pub poller : Form
poller = record {
  inner = Watch.the_row;
  laws = watch-laws.the_row_laws;
  type = PollerSlot.the_type;
  parts = λ s. (s.ptr, s.alloc, s.kept);
  made = λ m. record { ptr = m.0; alloc = m.1; kept = m.2 };
  made_is = λ m. refl;
}
