-- Event lines are read in no other way than they are spelled.
use Rattle.std.specs.Char.{is_ascii_digit, is_ascii_hexdigit}
use Rattle.std.specs.Fmt.{decimal}
use Rattle.std.specs.Prelude.{codes, option_map, unwrap_or}
use Rattle.std.proofs.Common.{◌++◌, ◌<◌, ◌==◌, ◌∙◌, ◌∷◌, ◌≡◌, ◌≤◌, [], ap, arith, Bool, cond}
use Rattle.std.proofs.Common.{eqb, eqb-true, false, get_or, length, List, lit<, None, Option}
use Rattle.std.proofs.Common.{refl, Some, subst, suc, sym, true, zero, ℕ}
use Rattle.std.proofs.lemmas.Bool.Decides.{nat_tests}
use Rattle.std.proofs.lemmas.Fmt.{decimal_digit, first_decimal}
use Rattle.std.proofs.lemmas.List.{append-nil, nil_from_length}
use Rattle.std.proofs.lemmas.Option.{cond_some, none-some, option_and_then_some, same_Some}
use Rattle.psci_board.specs.Grammar.{Ends, hex, hex_at, hex_value, IsNumber, literal_at}
use Rattle.psci_board.specs.Grammar.{number_at, spaced_at, TextLaws}
use Rattle.psci_world_spec.specs.declared.event.Event.{Event}
use Rattle.psci_world_spec.specs.declared.event.Event.TheVariants.{Call, Enter}
use Rattle.psci_script.specs.EventText.{after_word, alone_at, AreRegisterTexts, call_at}
use Rattle.psci_script.specs.EventText.{event_at, event_of, event_text, EventText, IsEventText}
use Rattle.psci_script.specs.EventText.{IsRegisterText, line_of, numbered_at}
use Rattle.psci_script.specs.EventText.{optional_register_at, or_else, ReadsAsSpelled}
use Rattle.psci_script.specs.EventText.{register_at, register_text, register_value}
use Rattle.psci_script.specs.EventText.{registers_text, RegisterText, SpellsWhatItSays, value_at}
use Rattle.psci_script.specs.EventText.{Word, word_event, word_text}
use Rattle.psci_script.specs.EventText.EventText.{CallText, NumberText}
use Rattle.psci_script.specs.EventText.RegisterText.{Decimal, Hexadecimal}
use Rattle.psci_script.specs.EventText.Word.{DeliverWord, EnterWord, ResetWord, TakeWord}
use Rattle.psci_script.specs.EventText.Word.{WakeWord}
use Rattle.psci_script.specs.declared.grammar.Line.TheVariants.{Blank, Event as Says}

-- Words -------------------------------------------------------------------------------------------
-- A register is read as it is spelled, where a space or nothing follows, and in no other way.

-- a space comes next, or nothing
abbrev pub IsEnd : List ℕ → Type 0
IsEnd [] = Unit {0}
IsEnd (b ∷ bs) = b ≡ 32

ends_digits : (rest : List ℕ) → IsEnd rest → Ends is_ascii_digit rest
ends_digits [] e = tt
ends_digits (b ∷ bs) e = ap is_ascii_digit e

ends_hexdigits : (rest : List ℕ) → IsEnd rest → Ends is_ascii_hexdigit rest
ends_hexdigits [] e = tt
ends_hexdigits (b ∷ bs) e = ap is_ascii_hexdigit e

-- Numbers -------------------------------------------------------------------------------------

pub number_again : (w : TextLaws) (n : ℕ) (rest : List ℕ) → IsNumber n → IsEnd rest
    → number_at (decimal n ++ rest) ≡ Some (n, rest)
number_again w n rest h e = w.numbers.again n rest h (ends_digits rest e)

-- A decimal number is no hexadecimal one --------------------------------------------------------

none_either : (t : Bool) (o : Option (List ℕ)) → o ≡ None → cond t o None ≡ None
none_either true o e = e
none_either false o e = refl

not_x : (rest : List ℕ) → IsEnd rest → literal_at (120 ∷ []) rest ≡ None
unfolding literal_at
not_x [] e = refl
not_x (b ∷ bs) e = rw e refl

not_zero : (d : ℕ) → 48 < d → (d == 48) ≡ false
not_zero d h = grind (arith, nat_tests)

no_prefix : (ds rest : List ℕ) → (1 < length ds → 48 < get_or ds 0 0) → IsEnd rest
    → literal_at (48 ∷ 120 ∷ []) (ds ++ rest) ≡ None
unfolding literal_at
no_prefix [] [] h e = refl
no_prefix [] (b ∷ bs) h e = rw e refl
no_prefix (d ∷ []) rest h e = grind (arith, nat_tests, none_either, not_x)
no_prefix (d ∷ f ∷ fs) rest h e = grind (arith, nat_tests, not_zero)

first_digit : (n : ℕ) → IsNumber n → 1 < length (decimal n) → 48 < get_or (decimal n) 0 0
first_digit zero h l = grind (arith, nat_tests, decimal_digit, lit<)
first_digit (suc n) h l = first_decimal (suc n) (omega arith) h

no_hex : (n : ℕ) (rest : List ℕ) → IsNumber n → IsEnd rest → hex_at (decimal n ++ rest) ≡ None
unfolding hex_at
no_hex n rest h e = rw (no_prefix (decimal n) rest (first_digit n h) e) refl

-- Registers -----------------------------------------------------------------------------------

pub register_again : (w : TextLaws) (r : RegisterText) (rest : List ℕ) → IsRegisterText r
    → IsEnd rest
    → register_at (register_text r ++ rest) ≡ Some (register_value r, rest)
unfolding register_at
register_again w (Decimal n) rest h e = rw (no_hex n rest h e, number_again w n rest h e) refl
register_again w (Hexadecimal ds) rest h e = grind (arith, nat_tests, ends_hexdigits)

-- the register that was read, and its spelling
pub record IsRegister (bytes : List ℕ) (x : ℕ × List ℕ) : Type 0 where
  pub text : RegisterText
  pub fits : IsRegisterText text
  pub spelled : bytes ≡ register_text text ++ x.1
  pub value : x.0 ≡ register_value text

register_by : (w : TextLaws) (bytes : List ℕ) (x : ℕ × List ℕ) (o : Option (List ℕ × List ℕ))
    → hex_at bytes ≡ o
    → or_else (option_map hex_value o) (number_at bytes) ≡ Some x → IsRegister bytes x
register_by w bytes x None e h =
    let t = w.numbers.takes bytes x h in
    record { text = Decimal x.0; fits = t.0; spelled = t.1; value = refl }
register_by w bytes x (Some y) e h =
    let t = w.hexadecimals.takes bytes y e in
    let same = same_Some (hex_value y) x h in
    record {
      text = Hexadecimal y.0;
      fits = t.0;
      spelled = t.1 ∙ ap (λ (z : ℕ × List ℕ). hex y.0 ++ z.1) same;
      value = sym (ap (λ (z : ℕ × List ℕ). z.0) same);
    }

pub register_takes : (w : TextLaws) (bytes : List ℕ) (x : ℕ × List ℕ) → register_at bytes ≡ Some x
    → IsRegister bytes x
unfolding register_at
register_takes w bytes x e = register_by w bytes x (hex_at bytes) refl e

-- Event lines -------------------------------------------------------------------------------------

-- the bytes after so many registers that may be missing
abbrev after : ℕ → List ℕ → List ℕ
after zero bytes = bytes
after (suc n) bytes = after n (optional_register_at bytes).1

-- registers, of which so many may follow, to the end of the line
record AreRegisters (n : ℕ) (bytes : List ℕ) : Type 0 where
  texts : List RegisterText
  fit : AreRegisterTexts texts
  few : length texts ≤ n
  spelled : bytes ≡ registers_text texts
  values : (i : ℕ) → i < n → (optional_register_at (after i bytes)).0 ≡ value_at texts i

-- where none follows, none follows later
stays : (n : ℕ) (bytes : List ℕ) → optional_register_at bytes ≡ (0, bytes) → after n bytes ≡ bytes
stays zero bytes e = refl
stays (suc n) bytes e = grind (arith, nat_tests, after, stays n bytes e)

none_follow : (n : ℕ) (bytes : List ℕ) → optional_register_at bytes ≡ (0, bytes)
    → after n bytes ≡ [] → AreRegisters n bytes
none_follow n bytes e h = grind (arith, nat_tests, stays)

values_more : (n : ℕ) (bytes : List ℕ) (y : ℕ × List ℕ) (r : RegisterText)
    (rs : List RegisterText) → optional_register_at bytes ≡ y → y.0 ≡ register_value r
    → ((i : ℕ) → i < n → (optional_register_at (after i y.1)).0 ≡ value_at rs i)
    → (i : ℕ) → i < suc n → (optional_register_at (after i bytes)).0 ≡ value_at (r ∷ rs) i
values_more n bytes y r rs e v more zero l = ap (λ (x : ℕ × List ℕ). x.0) e ∙ v
values_more n bytes y r rs e v more (suc i) l = grind (arith, nat_tests, after)

spaced_takes : (w : TextLaws) (bytes : List ℕ) (x : ℕ × List ℕ)
    → spaced_at register_at bytes ≡ Some x
    → (rest : List ℕ) × IsRegister rest x × (bytes ≡ 32 ∷ rest)
unfolding spaced_at
spaced_takes w bytes x e =
    option_and_then_some register_at (literal_at (32 ∷ []) bytes) x e
    (λ rest l i. (rest, register_takes w rest x i, w.word_takes (32 ∷ []) bytes rest l))

optional_is : (bytes : List ℕ) (o : Option (ℕ × List ℕ)) → spaced_at register_at bytes ≡ o
    → optional_register_at bytes ≡ unwrap_or o (0, bytes)
unfolding optional_register_at
optional_is bytes o e = ap (λ (q : Option (ℕ × List ℕ)). unwrap_or q (0, bytes)) e

one_more : (w : TextLaws) (n : ℕ) (bytes : List ℕ) (y : ℕ × List ℕ)
    → spaced_at register_at bytes ≡ Some y
    → AreRegisters n y.1 → AreRegisters (suc n) bytes
one_more w n bytes y e k =
    let s = spaced_takes w bytes y e in record {
      texts = s.1.text ∷ k.texts;
      fit = (s.1.fits, k.fit);
      few = omega (arith, k.few);
      spelled = s.2 ∙ ap (λ (b : List ℕ). 32 ∷ b) (s.1.spelled
          ∙ ap (λ (b : List ℕ). register_text s.1.text ++ b) k.spelled);
      values = values_more n bytes y s.1.text k.texts (optional_is bytes (Some y) e) s.1.value
          k.values;
    }

follow_by : (w : TextLaws) (n : ℕ) (bytes : List ℕ) (o : Option (ℕ × List ℕ))
    → spaced_at register_at bytes ≡ o
    → after (suc n) bytes ≡ []
    → ((rest : List ℕ) → after n rest ≡ [] → AreRegisters n rest) → AreRegisters (suc n) bytes
follow_by w n bytes None e h more = none_follow (suc n) bytes (optional_is bytes None e) h
follow_by w n bytes (Some y) e h more = one_more w n bytes y e (more y.1
    (sym (ap (λ (x : ℕ × List ℕ). after n x.1) (optional_is bytes (Some y) e)) ∙ h))

follow : (w : TextLaws) (n : ℕ) (bytes : List ℕ) → after n bytes ≡ [] → AreRegisters n bytes
follow w zero bytes h = record {
  texts = [];
  fit = tt;
  few = omega arith;
  spelled = h;
  values = λ i l. absurd (omega (arith, l));
}
follow w (suc n) bytes h =
    follow_by w n bytes (spaced_at register_at bytes) refl h (λ rest e. follow w n rest e)

-- the event line that these bytes spell
abbrev Spells : List ℕ → Event → Type 0
Spells bytes event =
    (t : EventText) × IsEventText t × (bytes ≡ event_text t) × (event ≡ event_of t)

same_call : (core x0 y0 x1 y1 x2 y2 x3 y3 : ℕ) → x0 ≡ y0 → x1 ≡ y1 → x2 ≡ y2 → x3 ≡ y3
    → Call core (record { x0 = x0; x1 = x1; x2 = x2; x3 = x3 })
    ≡ Call core (record { x0 = y0; x1 = y1; x2 = y2; x3 = y3 })
same_call core x0 y0 x1 y1 x2 y2 x3 y3 a b c d = grind (arith, nat_tests)

call_spelled : (w : TextLaws) (bytes rest : List ℕ) (event : Event) (c x : ℕ × List ℕ)
    → bytes ≡ codes "call " ++ rest → number_at rest ≡ Some c
    → spaced_at register_at c.1 ≡ Some x → AreRegisters 3 x.1
    → Call c.0 (record {
      x0 = x.0;
      x1 = (optional_register_at (after 0 x.1)).0;
      x2 = (optional_register_at (after 1 x.1)).0;
      x3 = (optional_register_at (after 2 x.1)).0;
    }) ≡ event → Spells bytes event
call_spelled w bytes rest event c x b n s k e =
    let core = w.numbers.takes rest c n in
    let first = spaced_takes w c.1 x s in
    let r = first.1.text in (
      CallText c.0 r k.texts,
      (core.0, (first.1.fits, k.fit), k.few),
      b ∙ ap (λ (l : List ℕ). codes "call " ++ l) (core.1
          ∙ ap (λ (l : List ℕ). decimal c.0 ++ l) (first.2 ∙ ap (λ (l : List ℕ). 32 ∷ l)
          (first.1.spelled ∙ ap (λ (l : List ℕ). register_text r ++ l) k.spelled))),
      sym e ∙ same_call c.0 _ _ _ _ _ _ _ _ first.1.value (k.values 0 (omega arith))
          (k.values 1 (omega arith)) (k.values 2 (omega arith)),
    )

call_takes : (w : TextLaws) (bytes rest : List ℕ) (event : Event) → bytes ≡ codes "call " ++ rest
    → call_at rest ≡ Some event → Spells bytes event
unfolding call_at
call_takes w bytes rest event b e =
    option_and_then_some _ (number_at rest) event e (λ c n e1.
    option_and_then_some _ (spaced_at register_at c.1) event e1 (λ x s e2.
    let end = cond_some (eqb (length (after 3 x.1)) 0) _ event e2 in
    call_spelled w bytes rest event c x b n s
    (follow w 3 x.1 (nil_from_length (after 3 x.1) (eqb-true (length (after 3 x.1)) 0 end.0)))
    end.1))

-- a number alone, to the end of the line
alone_takes : (w : TextLaws) (rest : List ℕ) (n : ℕ) → alone_at rest ≡ Some n
    → IsNumber n × (rest ≡ decimal n)
unfolding alone_at
alone_takes w rest n e =
    option_and_then_some _ (number_at rest) n e (λ c m e1.
    let end = cond_some (eqb (length c.1) 0) c.0 n e1 in
    let core = w.numbers.takes rest c m in
    let none : c.1 ≡ [] = nil_from_length c.1 (eqb-true (length c.1) 0 end.0) in (
      subst IsNumber end.1 core.0,
      core.1 ∙ ap (λ (l : List ℕ). decimal c.0 ++ l) none ∙ append-nil (decimal c.0)
          ∙ ap decimal end.1,
    ))

number_by : (make : ℕ → Event) (event : Event) (o : Option ℕ) → option_map make o ≡ Some event
    → (n : ℕ) × (o ≡ Some n) × (make n ≡ event)
number_by make event None e = absurd (none-some event e)
number_by make event (Some n) e = (n, refl, same_Some (make n) event e)

word_takes : (w : TextLaws) (word : Word) (bytes rest : List ℕ) (event : Event)
    → literal_at (word_text word) bytes ≡ Some rest
    → numbered_at (word_event word) rest ≡ Some event → Spells bytes event
word_takes w word bytes rest event l e =
    let found = number_by (word_event word) event (alone_at rest) e in
    let alone = alone_takes w rest found.0 found.1 in (
      NumberText word found.0,
      alone.0,
      w.word_takes (word_text word) bytes rest l
          ∙ ap (λ (x : List ℕ). word_text word ++ x) alone.1,
      sym found.2,
    )

-- one word more: it stands there, or the words after it are looked for
word_or : (w : TextLaws) (word : Word) (bytes : List ℕ) (event : Event) (o : Option (List ℕ))
    (other : Option Event) → literal_at (word_text word) bytes ≡ o
    → (other ≡ Some event → Spells bytes event)
    → after_word o (numbered_at (word_event word)) other ≡ Some event → Spells bytes event
word_or w word bytes event None other l more e = more e
word_or w word bytes event (Some rest) other l more e = word_takes w word bytes rest event l e

call_or : (w : TextLaws) (bytes : List ℕ) (event : Event) (o : Option (List ℕ))
    (other : Option Event) → literal_at (codes "call ") bytes ≡ o
    → (other ≡ Some event → Spells bytes event)
    → after_word o call_at other ≡ Some event → Spells bytes event
call_or w bytes event None other l more e = more e
call_or w bytes event (Some rest) other l more e =
    call_takes w bytes rest event (w.word_takes (codes "call ") bytes rest l) e

event_takes : (w : TextLaws) (bytes : List ℕ) (event : Event) → event_at bytes ≡ Some event
    → Spells bytes event
unfolding event_at
event_takes w bytes event =
    call_or w bytes event (literal_at (codes "call ") bytes) _ refl
    (word_or w EnterWord bytes event (literal_at (codes "enter ") bytes) _ refl
    (word_or w DeliverWord bytes event (literal_at (codes "deliver ") bytes) _ refl
    (word_or w TakeWord bytes event (literal_at (codes "take ") bytes) _ refl
    (word_or w WakeWord bytes event (literal_at (codes "wake ") bytes) _ refl
    (word_or w ResetWord bytes event (literal_at (codes "reset ") bytes) None refl
    (λ e. absurd (none-some event e)))))))

says_event : (t : Bool) (o : Option Event) (event : Event)
    → cond t (Some Blank) (option_map Says o) ≡ Some (Says event) → o ≡ Some event
says_event true o event e = absurd (cc)
says_event false None event e = absurd (cc)
says_event false (Some x) event e = cc

pub line_takes : TextLaws → SpellsWhatItSays
unfolding line_of
line_takes w [] event e = absurd (cc)
line_takes w (b ∷ bs) event e = grind (arith, nat_tests, event_takes, says_event, eqb)

-- Event lines are read as they are spelled --------------------------------------------------------

registers_end : (rs : List RegisterText) → IsEnd (registers_text rs)
registers_end [] = tt
registers_end (r ∷ rs) = refl

spaced_again : (w : TextLaws) (r : RegisterText) (rs : List RegisterText) → IsRegisterText r
    → spaced_at register_at (registers_text (r ∷ rs)) ≡ Some (register_value r, registers_text rs)
unfolding spaced_at literal_at
spaced_again w r rs h = register_again w r (registers_text rs) h (registers_end rs)

optional_again : (w : TextLaws) (r : RegisterText) (rs : List RegisterText) → IsRegisterText r
    → optional_register_at (registers_text (r ∷ rs)) ≡ (register_value r, registers_text rs)
unfolding optional_register_at
optional_again w r rs h = grind (arith, nat_tests, spaced_again)

optional_none : optional_register_at [] ≡ (0, [])
unfolding optional_register_at spaced_at literal_at
optional_none = refl

call_again : (w : TextLaws) (core : ℕ) (x0 : RegisterText) (rs : List RegisterText) → IsNumber core
    → IsRegisterText x0 → AreRegisterTexts rs → length rs ≤ 3
    → call_at (decimal core ++ registers_text (x0 ∷ rs)) ≡ Some (event_of (CallText core x0 rs))
unfolding call_at
call_again w core x0 [] c h a l =
    rw (
      number_again w core (registers_text (x0 ∷ [])) c refl,
      spaced_again w x0 [] h,
      optional_none,
      optional_none,
      optional_none,
    ) refl
call_again w core x0 (r ∷ []) c h a l =
    rw (
      number_again w core (registers_text (x0 ∷ r ∷ [])) c refl,
      spaced_again w x0 (r ∷ []) h,
      optional_again w r [] a.0,
      optional_none,
      optional_none,
    ) refl
call_again w core x0 (r ∷ s ∷ []) c h a l =
    rw (
      number_again w core (registers_text (x0 ∷ r ∷ s ∷ [])) c refl,
      spaced_again w x0 (r ∷ s ∷ []) h,
      optional_again w r (s ∷ []) a.0,
      optional_again w s [] a.1.0,
      optional_none,
    ) refl
call_again w core x0 (r ∷ s ∷ t ∷ []) c h a l =
    rw (
      number_again w core (registers_text (x0 ∷ r ∷ s ∷ t ∷ [])) c refl,
      spaced_again w x0 (r ∷ s ∷ t ∷ []) h,
      optional_again w r (s ∷ t ∷ []) a.0,
      optional_again w s (t ∷ []) a.1.0,
      optional_again w t [] a.1.1.0,
    ) refl
call_again w core x0 (r ∷ s ∷ t ∷ u ∷ rs) c h a l = absurd (omega (arith, l))

alone_again : (w : TextLaws) (n : ℕ) → IsNumber n → alone_at (decimal n) ≡ Some n
unfolding alone_at
alone_again w n c =
    let number : number_at (decimal n) ≡ Some (n, []) =
    subst (λ (ds : List ℕ). number_at ds ≡ Some (n, [])) (append-nil (decimal n))
    (number_again w n [] c tt) in
    rw number refl

word_again : (w : TextLaws) (word : Word) (n : ℕ) → IsNumber n
    → event_at (word_text word ++ decimal n) ≡ Some (word_event word n)
unfolding event_at literal_at
word_again w EnterWord n c = ap (option_map Enter) (alone_again w n c)
word_again w word n c = ap (option_map (word_event word)) (alone_again w n c)

-- no event line is empty or a comment
word_line : (word : Word) (n : ℕ) → line_of (word_text word ++ decimal n)
    ≡ option_map Says (event_at (word_text word ++ decimal n))
unfolding line_of
word_line EnterWord n = refl
word_line word n = refl

pub line_again : TextLaws → ReadsAsSpelled
unfolding line_of event_at literal_at
line_again w (NumberText word n) h = grind (arith, nat_tests, word_line, word_again)
line_again w (CallText core x0 rs) h = grind (arith, nat_tests, call_again)
