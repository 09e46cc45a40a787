-- What is in a slot is lent where it lies, and the slot follows it.
use Rattle.std.specs.Prelude.{Some}
use Rattle.std.proofs.Crossing as heap
use Rattle.std.proofs.raw_atomic.Walks.{proved}
use Prim.Native.Nat.{ℕ}
use Rattle.core.proofs.alloc.Calls.{token}
use Rattle.std_alloc.proofs.BoxSteps.Form.{B, D, handle, word, τ}
use Rattle.std_alloc.proofs.BoxSteps.Steps.{box_in, box_out}
use Rattle.std_alloc.proofs.VecSteps.Shapes.{after}
use base.Fml.{Fml, GName, Lft, Share, flft, fsep, ftrue}
use base.Fraction.{full_share}
use base.Logic.{SProp, ent, sep}
use contract.Monad.{fact}
use contract.Running.{Running, tables}
use denote.Exit.{no}
use denote.Follow.{Part, follows, lends_Part}
use denote.Memory.{cell_at, mem, part_at, part_of, pointee}
use denote.Param.{layout}
use denote.Param.Send.{IsSend, sendable}
use denote.RattleType.{RattleType, owns}
use denote.RawPtr.{block_ptr}
use denote.Ref.{MutRef, mut_Tells, mut_vals}
use denote.Signature.{Slot, mut_ref_to, plain}
use denote.Steps.{heard, nothing, opens}
use denote.Triple.Clauses.{Clauses, Ended, closing}
use denote.Triple.Entry.{on_entry}
use denote.Triple.Spec.{Meets}
use denote.Triple.Walked.{Goes-spent_ref, Stays, ends_at, says, stay_dropped, walk_of}
use mathlib.Core.List.{◌∷◌, List, []}
use mathlib.Core.Path.{◌≡◌, refl}
use mir.Raw.{raw as bare}
use mir.Syntax.{Callee, Fn, addr_of, assign, block, copy, deref, erased, field, local, mut, named}
use mir.Syntax.{place, return, rv_opd, seq, ty_ptr, ty_ref, value_local}
use mir.Val.{Val, vptr}
use prog.Model.{Model}
use prog.Wp.{Calls, Closed, Env, Loops, WpFn}
use seplogic.Ra.Ura.{Ura}
use types.ByLocal.{alloc_all, env, free_all, get, look_at, pass_all, sets, sets_last, through}
use types.Kit.{◌$◌, ◌∵◌, ◌⊛◌, !, at_ret, await, by, done, drop, fjoin, fpack, frame, fsplit}
use types.Kit.{fsplit3, group, join, keep, later, move, pick, qed, raw, rewrite, some, split}
use types.Kit.{suffices, use1, ‵}
use types.Logic.{Logic, sem}
use types.Part.{look_in, sub, whole}
use types.Run.{addr, blocks, enter, exec, first, fld, load, of_opd, returns, stop}
use Rattle.psci_control.specs.contracts.control_side.ControlSide as ControlSide
use Rattle.psci_control.proofs.control_side.ControlSide.TheLaws as side-laws
use Rattle.psci_control.proofs.gate.Gate.TheSendSync as gate
use Rattle.psci_ffi.specs.Slots.{IsFilled}
use Rattle.psci_ffi.specs.contracts.control_place.ControlSlot as ControlSlot
use Rattle.psci_ffi.proofs.Crossing as crossing
use Rattle.psci_ffi.proofs.SlotEmpty.{E, Form, S, X, filled, is_some, kept_in, opened, puts}
use Rattle.psci_ffi.proofs.SlotEmpty.{slot_ty, value_of}

-- The slot of the power controller's side; and what is in it may go to another core ---------------

abbrev pub control : Form
control = record {
  inner = ControlSide.the_row;
  laws = side-laws.the_row_laws;
  type = ControlSlot.the_type;
  parts = λ s. (s.ptr, s.alloc, s.kept);
  made = λ m. record { ptr = m.0; alloc = m.1; kept = m.2 };
  made_is = λ m. refl;
}

pub side : IsSend ControlSide.the_row
side = search (sendable, heap.crosses, crossing.controller, gate.the_send) depth 40 fits 20000

-- Slot lends --------------------------------------------------------------------------------------

module _ (F : Form) where
  abbrev lent : RattleType → Slot 1
  lent R = mut_ref_to (0 ∷ []) tt (plain (λ _. R))

  abbrev pub function : Fn
  function = record {
    lifetimes = 1;
    outlives = [];
    ty_params = [];
    givens = 0;
    params = 1;
    locals = local (ty_ref (named 0) mut (pointee (X F).written)) value_local
        ∷ local (ty_ref (named 0) mut (pointee (S F).written)) value_local
        ∷ local (ty_ref erased mut (pointee (X F).written)) value_local
        ∷ local ty_ptr value_local ∷ local ty_ptr value_local ∷ [];
    body = seq (block (seq
        (assign (place 3 []) (rv_opd (copy (place 1 (deref (slot_ty F) ∷ field 0 ∷ [])))))
        (seq (assign (place 4 []) (rv_opd (copy (place 3 []))))
        (assign (place 2 []) (addr_of (place 4 (deref (layout (X F)) ∷ [])))))))
        (seq (assign (place 0 []) (rv_opd (copy (place 2 [])))) return);
  }

  abbrev pub ended : Ended
  ended = record {
    signature = record {
      lifetimes = 1;
      outlives = [];
      params = lent (S F) ∷ [];
      result = lent (X F);
    };
    kept = (no, tt);
  }

  abbrev stayed : Stays ended.signature.params ended.kept
  stayed = (stay_dropped (lent (S F)) no, tt)

  module _ {M : Type 1} {𝓤 : Ura M} (𝓛 : Logic 𝓤) where
    open 𝓛 use {H, A}

    abbrev pub clauses : Clauses 𝓤 ended
    clauses κs a = record {
      ghost = Unit {0};
      requires = λ _. fact 𝓤 (IsFilled (kept_in F a.0.now));
      ensures = λ _ r _. sep 𝓤
          (sem 𝓛 (follows (S F) (X F) a.0.ghost_name r.ghost_name (filled F a.0.now)))
          (fact 𝓤 (kept_in F a.0.now ≡ Some r.now));
    }

    module _ (C : Calls 𝓤 H) (Λ : Loops 𝓤 H) (κ : Lft) (q : Share) (rb ro : ℕ) (γ : GName)
        (s : (S F).Denot) where
      abbrev bound : (walk_of 𝓛 ended stayed clauses).Ghost
      bound = (
        (
          (κ, tt),
          (q, tt),
          tt,
          (record { ref_ptr = (rb, ro); ghost_name = γ; now = s }, tt),
          (vptr rb ro ∷ [], tt),
        ),
        tt,
      )

      abbrev Post : Val → SProp 𝓤
      Post = (walk_of 𝓛 ended stayed clauses).post bound

      module _ (full : IsFilled (kept_in F s)) (b o : ℕ) (hv : Val) where
        abbrev x : (X F).Denot
        x = value_of (kept_in F s) full

        abbrev boxed : (X F).Denot → D (E F)
        boxed y = record { ptr = (F.parts s).0; alloc = (F.parts s).1; value = y }

        -- all of the slot but what is in it
        abbrev Rest : Fml
        Rest = fsep (fsep (token (E F).al (F.parts s).1 (bare (τ (E F))) (block_ptr b o))
            (handle (E F) (F.parts s).1 hv))
            (cell_at full_share (S F).mir (word (E F) hv b o ∷ []) rb ro)

        back : (F.parts s).0 ≡ block_ptr b o → (y : (X F).Denot)
            → ent 𝓤 (sep 𝓤 (sem 𝓛 ((mem (X F)).own_at y b o)) (sem 𝓛 Rest))
            (sem 𝓛 ((mem (S F)).own_at (filled F s y) rb ro))
        unfolding part_of
        back at_b y =
            let w = word (E F) hv b o in
            qed 𝓛 (‵ (part_at (X F) full_share y b o) ∷ ‵ Rest ∷ []) ∵ move ! (1 ∷ []) $
            fsplit ! $ fsplit ! $ move ! (3 ∷ []) $ box_in (E F) ! (boxed y) b o y at_b refl $
            use1 𝓛 (‵ ((S F).own_val (filled F s y) (w ∷ [])))
            (puts F 𝓛 ((F.parts s).0, (F.parts s).1, Some y) (w ∷ [])) $
            move ! (1 ∷ 0 ∷ []) $ fjoin ! $
            fpack ! (List Val) (λ us. fsep (cell_at full_share (S F).mir us rb ro)
            ((S F).own_val (filled F s y) us)) (w ∷ []) $ done !

        exits : (γ' : GName)
            → ent 𝓤 (sep 𝓤 (sem 𝓛 ((MutRef (named 0) κ (X F)).own_val (record {
              ref_ptr = (b, o);
              ghost_name = γ';
              now = x;
            }) (vptr b o ∷ [])))
            (sep 𝓤 (A.lft κ q) (sem 𝓛 (follows (S F) (X F) γ γ' (filled F s))))) (Post (vptr b o))
        exits γ' =
            qed 𝓛 (‵ ((MutRef (named 0) κ (X F)).own_val (record {
              ref_ptr = (b, o);
              ghost_name = γ';
              now = x;
            }) (vptr b o ∷ [])) ∷ ‵ (flft κ q)
            ∷ ‵ (follows (S F) (X F) γ γ' (filled F s)) ∷ []) ∵
            suffices ! _ (ends_at 𝓛 ended stayed clauses bound (vptr b o) (record {
              ref_ptr = (b, o);
              ghost_name = γ';
              now = x;
            }) (tt, tt) (tt, tt)) $
            nothing ! $ nothing ! $ fjoin ! $ join ! $ nothing ! $ move ! (2 ∷ 0 ∷ []) $ join ! $
            join ! $ frame ! $ says ! (is_some (kept_in F s) full) $ done !

      walk : ent 𝓤 (sep 𝓤 (on_entry 𝓛 ended.signature (κ, tt) (q, tt)
          (record { ref_ptr = (rb, ro); ghost_name = γ; now = s }, tt) (vptr rb ro ∷ [], tt))
          (fact 𝓤 (IsFilled (kept_in F s))))
          (WpFn 𝓤 H C Λ function (vptr rb ro ∷ []) Post)
      walk =
          qed 𝓛 (((‵ (flft κ q) ⊛ ‵ ftrue) ⊛ ‵ (owns (MutRef (named 0) κ (S F) ∷ []) (
            record { ref_ptr = (rb, ro); ghost_name = γ; now = s },
            tt,
          ) (vptr rb ro ∷ [], tt))) ∷ raw (fact 𝓤 (IsFilled (kept_in F s))) ∷ []) ∵
          move ! (1 ∷ []) $ heard ! (IsFilled (kept_in F s)) (λ full. split ! $
          let y = value_of (kept_in F s) full in
          let v : D (E F) = record { ptr = (F.parts s).0; alloc = (F.parts s).1; value = y } in
          enter ! C Λ function (vptr rb ro ∷ []) _ $
          alloc_all ! (λ l. pass_all ! refl ((tt, tt), tt) $
          let En : Env 𝓤 H = env function.locals l in
          move ! (1 ∷ []) $ fsplit ! $ fsplit3 ! $ drop ! $ move ! (3 ∷ []) $ split ! $
          move ! (2 ∷ 3 ∷ 0 ∷ []) $
          opens ! tt (S F) {h = s} rb ro (λ vs. move ! (1 ∷ []) $
          use1 𝓛 (‵ ((B (E F)).own_val v vs))
          (opened F 𝓛 (F.parts s).0 (F.parts s).1 (kept_in F s) full vs) $
          box_out (E F) ! v vs (λ b o hv at_b ws fa.
          move ! (1 ∷ 2 ∷ []) $ fjoin ! $ move ! (1 ∷ []) $
          rewrite ! 2 (λ (us : List Val). ‵ (cell_at full_share (S F).mir us rb ro)) ws refl $
          first ! $ blocks ! $
          sets ! (of_opd ! (load ! (through ! refl (fld ! refl (stop !)))
          (look_in ! 2 (sub ! 0 refl (whole !))))) refl (tt, tt) $
          sets ! (of_opd ! (get ! refl)) refl (tt, tt) $
          sets_last ! (addr ! (through ! refl (stop !))) refl (tt, tt) $
          exec ! C Λ En (after 1 function.body) (at_ret En Post) $
          sets ! (of_opd ! (get ! refl)) refl (tt, tt) $
          move ! (1 ∷ 2 ∷ []) $ fjoin ! $ move ! (2 ∷ 3 ∷ 4 ∷ 1 ∷ 0 ∷ []) $ group ! 5 $
          use1 𝓛 (later (some (λ (γ' : GName). raw (Part 𝓛 (S F) (X F) (filled F s) (named 0) κ q
          rb ro b o γ (sem 𝓛 (Rest full b o hv)) (back full b o hv at_b) y γ'))))
          (lends_Part 𝓛 (S F) (X F) (filled F s) (named 0) κ q rb ro b o γ
          (sem 𝓛 (Rest full b o hv)) (back full b o hv at_b)
          ((S F).coded.code s) ((S F).coded.code s) y) $
          await ! tt $ pick ! (λ γ'.
          returns ! (look_at ! 0 refl) $ free_all ! refl $
          keep ! (0 ∷ []) $ by ! (exits full b o hv γ'))))))

    pub met : (𝓜 : Model 𝓤 H) (𝓡 : Running 𝓤 H 𝓜) (k : Callee)
        → Closed 𝓤 H (tables 𝓤 H 𝓜 𝓡 𝓡.env).C (tables 𝓤 H 𝓜 𝓡 𝓡.env).Λ k function
        → Meets 𝓛 ended.signature (𝓡.run (𝓡.env k)) (closing 𝓛 ended clauses)
    met 𝓜 𝓡 k unfolded = proved 𝓛 ended stayed clauses 𝓜 𝓡
        (Goes-spent_ref 𝓛 1 (0 ∷ []) tt (plain (λ _. S F)), tt) k function unfolded
        (λ κs. (mut_vals, tt)) (λ κs. (mut_Tells (named 0) κs.0 (S F), tt))
        (λ κs qs bounds a g are. walk (tables 𝓤 H 𝓜 𝓡 𝓡.env).C (tables 𝓤 H 𝓜 𝓡 𝓡.env).Λ κs.0
        qs.0 a.0.ref_ptr.0 a.0.ref_ptr.1 a.0.ghost_name a.0.now)
