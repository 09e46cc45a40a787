-- `of_parts` and `into_parts` move two fields, and what they own goes with them.
use Rattle.std.specs.Prelude.{Some}
use mathlib.Core.Path.{◌≡◌, ap, refl, subst, sym}
use mathlib.Core.List.{◌++◌, ◌∷◌, List, []}
use Prim.Native.Nat.{ℕ}
use seplogic.Ra.Ura.{Ura}
use mir.Syntax.{Callee, Fn, Local, Sym, aggregate, assign, copy, field, local, place, return}
use mir.Syntax.{rv_opd, seq, tcons, tnil, ty_ptr, ty_struct, value_local}
use mir.Val.{Val}
use base.Logic.{SProp, emp, ent, id⊢}
use base.Fml.{fsep, ftrue}
use contract.Monad.{fact}
use contract.Running.{Running, tables}
use prog.Model.{Model}
use prog.Wp.{Calls, Closed, Loops, WpFn}
use types.Logic.{Logic}
use types.Kit.{◌$◌, ◌∵◌, ◌⊛◌, !, by, done, drop, fjoin, fsplit, join, keep, move, qed, raw, split}
use types.Kit.{suffices, use1, ‵}
use types.Part.{agg, sub, whole}
use types.Run.{and_then, enter, fld, no_more, of_opd, returns, stop}
use types.ByLocal.{alloc_all, free_all, get, get_in, look_at, pass_all, sets}
use denote.Exit.{yes}
use denote.RattleType.{RattleType}
use denote.Signature.{plain}
use denote.Steps.{heard, nothing}
use denote.Triple.Clauses.{Clauses, Ended, closing}
use denote.Triple.Spec.{Meets}
use denote.Triple.Walked.{Goes-dropped, Stays, ends_at, says, stay_dropped, walk_of}
use Rattle.core.proofs.alloc.Calls.{Fits, α}
use Rattle.std.proofs.raw_atomic.Walks.{proved_at}
use Rattle.std_alloc.proofs.BoxSteps.Form.{B, D, box_typed, word}
use Rattle.std_alloc.proofs.BoxSteps.Steps.{box_in, box_out}
use Rattle.std_heap.specs.contracts.Global as Heap
use Rattle.std_heap.specs.contracts.GlobalAllocator.TheImpl.{ghosts}
use Rattle.psci_ffi.specs.Slots.{IsFilled}
use Rattle.psci_ffi.specs.contracts.place.Parts as Parts
use Rattle.psci_ffi.proofs.SlotEmpty.{E, Form, P, S, X, is_some, kept_in, opened, puts, value_of}

-- both take a value of one type and make one of the other
abbrev moves : RattleType → RattleType → Ended
moves From To = record {
  signature = record {
    lifetimes = 0;
    outlives = [];
    params = plain (λ _. From) ∷ [];
    result = plain (λ _. To);
  };
  kept = (yes, tt);
}

abbrev stayed : (From To : RattleType) → Stays (moves From To).signature.params (moves From To).kept
stayed From To = (stay_dropped (plain (λ _. From)) yes, tt)

module _ (F : Form) where
  -- a struct of an address and a handle
  abbrev of_two : Sym → Local
  of_two ν = local (ty_struct ν (tcons ty_ptr (tcons (α (E F).al) tnil))) value_local

  abbrev function : Sym → Sym → Fn
  function from to = record {
    lifetimes = 0;
    outlives = [];
    ty_params = [];
    givens = 0;
    params = 1;
    locals = of_two to ∷ of_two from ∷ local ty_ptr value_local
        ∷ local (α (E F).al) value_local ∷ local ty_ptr value_local ∷ [];
    body = seq (assign (place 2 []) (rv_opd (copy (place 1 (field 0 ∷ [])))))
        (seq (assign (place 3 []) (rv_opd (copy (place 1 (field 1 ∷ [])))))
        (seq (assign (place 4 []) (rv_opd (copy (place 2 []))))
        (seq (assign (place 0 []) (aggregate (copy (place 4 []) ∷ copy (place 3 []) ∷ [])))
        return)));
  }

  abbrev parts_name : Sym
  parts_name = (Parts.the_type (X F) Heap.the_row ghosts).name

  abbrev pub of_function : Fn
  of_function = function parts_name F.type.name

  abbrev pub into_function : Fn
  into_function = function F.type.name parts_name

  abbrev pub of_ended : Ended
  of_ended = moves (P F) (S F)

  abbrev pub into_ended : Ended
  into_ended = moves (S F) (P F)

  module _ {M : Type 1} {𝓤 : Ura M} (𝓛 : Logic 𝓤) where
    open 𝓛 use {H}

    abbrev pub of_clauses : Clauses 𝓤 of_ended
    of_clauses κs a = record {
      ghost = Unit {0};
      requires = λ _. emp 𝓤;
      ensures = λ _ r _. fact 𝓤 (kept_in F r ≡ Some a.0.value);
    }

    abbrev pub into_clauses : Clauses 𝓤 into_ended
    into_clauses κs a = record {
      ghost = Unit {0};
      requires = λ _. fact 𝓤 (IsFilled (kept_in F a.0));
      ensures = λ _ r _. fact 𝓤 (kept_in F a.0 ≡ Some r.value);
    }

    module _ (C : Calls 𝓤 H) (Λ : Loops 𝓤 H) where
      -- the two words go over, whatever goes with them
      goes_over : (from to : Sym) (hv : Val) (b o : ℕ) → Fits (E F).al hv
          → (vs : List Val) → vs ≡ word (E F) hv b o ∷ [] → (G : SProp 𝓤) (Post : Val → SProp 𝓤)
          → ent 𝓤 G (Post (word (E F) hv b o))
          → ent 𝓤 G (WpFn 𝓤 H C Λ (function from to) (vs ++ []) Post)
      goes_over from to hv b o fa vs ws G Post ends =
          let typed = box_typed (E F) hv b o fa in
          subst (λ (us : List Val). ent 𝓤 G (WpFn 𝓤 H C Λ (function from to) (us ++ []) Post))
          (sym ws) (qed 𝓛 (raw G ∷ []) ∵
          enter ! C Λ (function from to) (word (E F) hv b o ∷ []) _ $
          alloc_all ! (λ ls. pass_all ! refl (typed, tt) $
          sets ! (of_opd ! (get_in ! (fld ! refl (stop !)) (sub ! 0 refl (whole !)))) refl
          (tt, tt) $
          sets ! (of_opd ! (get_in ! (fld ! refl (stop !)) (sub ! 1 refl (whole !)))) refl fa $
          sets ! (of_opd ! (get ! refl)) refl (tt, tt) $
          sets ! (agg ! (and_then ! (get ! refl) (and_then ! (get ! refl) (no_more !)))) refl
          typed $ returns ! (look_at ! 0 refl) $ free_all ! refl $ by ! ends))

      of_walk : (z : (walk_of 𝓛 of_ended (stayed (P F) (S F)) of_clauses).Ghost)
          → ent 𝓤 ((walk_of 𝓛 of_ended (stayed (P F) (S F)) of_clauses).pre z)
          (WpFn 𝓤 H C Λ of_function (z.0.4.0 ++ [])
          ((walk_of 𝓛 of_ended (stayed (P F) (S F)) of_clauses).post z))
      of_walk z =
          let hs = stayed (P F) (S F) in
          let v : D (E F) = record {
            ptr = z.0.3.0.ptr;
            alloc = z.0.3.0.alloc;
            value = z.0.3.0.value;
          } in
          let made : (S F).Denot = F.made (v.ptr, v.alloc, Some v.value) in
          qed 𝓛 ((‵ ftrue ⊛ ‵ (fsep ((B (E F)).own_val v z.0.4.0) ftrue)) ∷ raw (emp 𝓤) ∷ []) ∵
          split ! $ drop ! $ fsplit ! $
          box_out (E F) ! v z.0.4.0 (λ b o hv e ws fa. box_in (E F) ! v b o v.value e refl $
          let w = word (E F) hv b o in
          use1 𝓛 (‵ ((S F).own_val made (w ∷ [])))
          (puts F 𝓛 (v.ptr, v.alloc, Some v.value) (w ∷ [])) $ keep ! (0 ∷ []) $
          by ! (goes_over parts_name F.type.name hv b o fa z.0.4.0 ws _ _
          (qed 𝓛 (‵ ((S F).own_val made (w ∷ [])) ∷ []) ∵
          suffices ! _ (ends_at 𝓛 of_ended hs of_clauses z w made (tt, tt) (tt, tt)) $
          says ! (ap (λ m. m.2) (F.made_is (v.ptr, v.alloc, Some v.value))) $
          nothing ! $ nothing ! $ fjoin ! $ join ! $ nothing ! $ join ! $ done !)))

      into_walk : (z : (walk_of 𝓛 into_ended (stayed (S F) (P F)) into_clauses).Ghost)
          → ent 𝓤 ((walk_of 𝓛 into_ended (stayed (S F) (P F)) into_clauses).pre z)
          (WpFn 𝓤 H C Λ into_function (z.0.4.0 ++ [])
          ((walk_of 𝓛 into_ended (stayed (S F) (P F)) into_clauses).post z))
      into_walk z =
          let hs = stayed (S F) (P F) in
          let s = z.0.3.0 in
          qed 𝓛 ((‵ ftrue ⊛ ‵ (fsep ((S F).own_val s z.0.4.0) ftrue))
          ∷ raw (fact 𝓤 (IsFilled (kept_in F s))) ∷ []) ∵
          move ! (1 ∷ []) $ heard ! (IsFilled (kept_in F s)) (λ full.
          let v : D (E F) = record {
            ptr = (F.parts s).0;
            alloc = (F.parts s).1;
            value = value_of (kept_in F s) full;
          } in
          let made : (P F).Denot = record { ptr = v.ptr; alloc = v.alloc; value = v.value } in
          split ! $ drop ! $ fsplit ! $
          use1 𝓛 (‵ ((B (E F)).own_val v z.0.4.0))
          (opened F 𝓛 v.ptr v.alloc (kept_in F s) full z.0.4.0) $
          box_out (E F) ! v z.0.4.0 (λ b o hv e ws fa. box_in (E F) ! v b o v.value e refl $
          let w = word (E F) hv b o in
          use1 𝓛 (‵ ((P F).own_val made (w ∷ []))) (id⊢ 𝓤 _) $ keep ! (0 ∷ []) $
          by ! (goes_over F.type.name parts_name hv b o fa z.0.4.0 ws _ _
          (qed 𝓛 (‵ ((P F).own_val made (w ∷ [])) ∷ []) ∵
          suffices ! _ (ends_at 𝓛 into_ended hs into_clauses z w made (tt, tt) (tt, tt)) $
          says ! (is_some (kept_in F s) full) $
          nothing ! $ nothing ! $ fjoin ! $ join ! $ nothing ! $ join ! $ done !))))

    module _ (𝓜 : Model 𝓤 H) (𝓡 : Running 𝓤 H 𝓜) (k : Callee) where
      pub of_met : Closed 𝓤 H (tables 𝓤 H 𝓜 𝓡 𝓡.env).C (tables 𝓤 H 𝓜 𝓡 𝓡.env).Λ k of_function
          → Meets 𝓛 of_ended.signature (𝓡.run (𝓡.env k)) (closing 𝓛 of_ended of_clauses)
      of_met unfolded = proved_at 𝓛 of_ended (stayed (P F) (S F)) of_clauses 𝓜 𝓡
          (Goes-dropped 𝓛 0 (plain (λ _. P F)) yes (λ κs x f. refl), tt) k of_function unfolded
          (λ z are. of_walk (tables 𝓤 H 𝓜 𝓡 𝓡.env).C (tables 𝓤 H 𝓜 𝓡 𝓡.env).Λ z)

      pub into_met : Closed 𝓤 H (tables 𝓤 H 𝓜 𝓡 𝓡.env).C (tables 𝓤 H 𝓜 𝓡 𝓡.env).Λ k into_function
          → Meets 𝓛 into_ended.signature (𝓡.run (𝓡.env k)) (closing 𝓛 into_ended into_clauses)
      into_met unfolded = proved_at 𝓛 into_ended (stayed (S F) (P F)) into_clauses 𝓜 𝓡
          (Goes-dropped 𝓛 0 (plain (λ _. S F)) yes (λ κs x f. refl), tt) k into_function unfolded
          (λ z are. into_walk (tables 𝓤 H 𝓜 𝓡 𝓡.env).C (tables 𝓤 H 𝓜 𝓡 𝓡.env).Λ z)
