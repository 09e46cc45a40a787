-- The digits of a number, written from the last to the first.
use Rattle.std.specs.Fmt.{digit_glyph, digits, digits_onto}
use Rattle.std.specs.List.{copy_within}
use Rattle.std.proofs.Common.{◌%◌, ◌*◌, ◌++◌, ◌+◌, ◌-◌, ◌/◌, ◌<◌, ◌==◌, ◌^◌, ◌∙◌, ◌∷◌, ◌≡◌, ◌≤◌}
use Rattle.std.proofs.Common.{[], ap, arith, Bool, drop, false, get_or, if◌then◌else◌, length}
use Rattle.std.proofs.Common.{List, refl, set, subst, suc, sym, take, true, ℕ}
use Rattle.std.proofs.Math.Nat.{pow-suc}
use Rattle.std.proofs.lemmas.Bool.Decides.{nat_tests}
use Rattle.std.proofs.lemmas.List.{drop-set, drop_all, drop_more, length-append, length-drop}
use Rattle.std.proofs.lemmas.List.{take_all}
use Rattle.std.proofs.lemmas.List.Edits.{take-paste}
use Rattle.psci_record.specs.Texts.{base, byte_text, bytes_text, places, some_byte}
use Rattle.psci_record.specs.Texts.{with_byte}
use Rattle.psci_record.specs.declared.digits.Radix.{Radix}
use Rattle.psci_record.specs.declared.digits.Radix.TheVariants.{Decimal, Hexadecimal}

pub is_zero : (n : ℕ) → n ≡ 0 → (n == 0) ≡ true
is_zero n e = grind (arith, nat_tests)

pub not_zero : (n : ℕ) → (n ≡ 0 → ⊥) → (n == 0) ≡ false
not_zero n h = grind (arith, nat_tests)

last_digit : (r : Radix) (k n : ℕ) (acc : List ℕ) → n / base r ≡ 0
    → digits_onto (suc k) (base r) false n acc ≡ digit_glyph false (n % base r) ∷ acc
last_digit r k n acc e = grind (arith, nat_tests, is_zero)

more_digits : (r : Radix) (k n : ℕ) (acc : List ℕ) → (n / base r ≡ 0 → ⊥)
    → digits_onto (suc k) (base r) false n acc
    ≡ digits_onto k (base r) false (n / base r) (digit_glyph false (n % base r) ∷ acc)
more_digits r k n acc h = grind (arith, nat_tests, not_zero)

-- so far the bytes from here on are the last digits, with so many places left before them; unless
-- none is written yet, the number that is left is not 0
pub record IsUnderWay (r : Radix) (n : ℕ) (tail : List ℕ) (left rest : ℕ) (bytes : List ℕ)
    : Type 0 where
  pub done : List ℕ
  pub bytes_are : bytes ≡ done ++ tail
  pub others : digits_onto (64 - places r + left) (base r) false rest done
      ≡ digits (base r) false n
  pub small : rest < base r ^ left
  pub some : left < places r → 0 < rest

pub none_yet : (r : Radix) (n : ℕ) (tail : List ℕ) → n < 2 ^ 64
    → IsUnderWay r n tail (places r) n tail
unfolding digits
none_yet Decimal n tail h = grind (arith, nat_tests)
none_yet Hexadecimal n tail h = grind (arith, nat_tests)

same_glyph : (d x : ℕ) (bytes tail : List ℕ) → d ≡ x → bytes ≡ tail → d ∷ bytes ≡ x ∷ tail
same_glyph d x bytes tail e f = ap (λ b. b ∷ bytes) e ∙ ap (λ l. x ∷ l) f

pub less : (r : Radix) (n m : ℕ) → n < m * base r → n / base r < m
less Decimal n m h = grind (arith, h)
less Hexadecimal n m h = grind (arith, h)

room_left : (r : Radix) (j : ℕ) → 64 - places r + suc j ≡ suc (64 - places r + j)
room_left Decimal j = omega arith
room_left Hexadecimal j = omega arith

module _ (r : Radix) (n : ℕ) (tail : List ℕ) (j rest digit : ℕ) (bytes room : List ℕ)
    (w : IsUnderWay r n tail (suc j) rest bytes)
    (e : digit ≡ digit_glyph false (rest % base r)) (told : room ≡ digit ∷ bytes) where
  others : digits_onto (suc (64 - places r + j)) (base r) false rest w.done
      ≡ digits (base r) false n
  others = subst (λ k. digits_onto k (base r) false rest w.done ≡ digits (base r) false n)
      (room_left r j) w.others

  smaller : rest / base r < base r ^ j
  smaller = less r rest (base r ^ j) (omega (arith, w.small, pow-suc (base r) j))

  pub one_more : (rest / base r ≡ 0 → ⊥) → IsUnderWay r n tail j (rest / base r) room
  one_more h = record {
    done = digit_glyph false (rest % base r) ∷ w.done;
    bytes_are = told
        ∙ same_glyph digit (digit_glyph false (rest % base r)) bytes (w.done ++ tail) e w.bytes_are;
    others = sym (more_digits r (64 - places r + j) rest w.done h) ∙ others;
    small = smaller;
    some = λ few. omega (arith, h);
  }

  pub all_done : rest / base r ≡ 0 → room ≡ digits (base r) false n ++ tail
  all_done h =
      told
      ∙ same_glyph digit (digit_glyph false (rest % base r)) bytes (w.done ++ tail) e w.bytes_are
      ∙ ap (λ text. text ++ tail)
      (sym (last_digit r (64 - places r + j) rest w.done h) ∙ others)

pub never_none : (r : Radix) (n : ℕ) (tail : List ℕ) (rest : ℕ) (bytes : List ℕ)
    → IsUnderWay r n tail 0 rest bytes → ⊥
never_none Decimal n tail rest bytes w = omega (arith, w.small, w.some (omega arith))
never_none Hexadecimal n tail rest bytes w = omega (arith, w.small, w.some (omega arith))

-- a byte is written before the others
pub put_before : (room : List ℕ) (at next byte : ℕ) → at < length room → at + 1 ≡ next
    → drop at (set room at byte) ≡ byte ∷ drop next room
put_before room at next byte h e = grind (arith, nat_tests, drop-set)

pub one_left : (r : Radix) (n : ℕ) (tail : List ℕ) (left rest : ℕ) (bytes : List ℕ) → 0 < left
    → IsUnderWay r n tail left rest bytes → IsUnderWay r n tail (suc (left - 1)) rest bytes
one_left r n tail left rest bytes some w = grind (arith, nat_tests)

-- With a base and a number of places that are those of a radix -----------------------------------

pub begun : (r : Radix) (n : ℕ) (room : List ℕ) (end p : ℕ) → p ≡ places r → n < 2 ^ 64
    → places r ≤ end → IsUnderWay r n (drop end room) p n (drop (end - p + p) room)
begun r n room end p ep h least =
    let whole : end ≡ end - p + p = omega (arith, ep, least) in
    subst (λ k. IsUnderWay r n (drop end room) p n (drop k room)) whole
    (subst (λ q. IsUnderWay r n (drop end room) q n (drop end room)) (sym ep)
    (none_yet r n (drop end room) h))

small_digit : (r : Radix) (n : ℕ) → n % base r < 16
small_digit Decimal n = omega arith
small_digit Hexadecimal n = omega arith

pub is_digit : (r : Radix) (n b digit : ℕ) → b ≡ base r
    → (n % b < 16 → digit ≡ digit_glyph false (n % b)) → digit ≡ digit_glyph false (n % base r)
is_digit r n b digit eb told =
    subst (λ k. (n % k < 16 → digit ≡ digit_glyph false (n % k))) eb told (small_digit r n)

module _ (r : Radix) (n : ℕ) (tail : List ℕ) (left rest digit b : ℕ) (bytes room : List ℕ)
    (some : 0 < left) (eb : b ≡ base r) (w : IsUnderWay r n tail left rest bytes)
    (told : rest % b < 16 → digit ≡ digit_glyph false (rest % b))
    (put : room ≡ digit ∷ bytes) where
  one : IsUnderWay r n tail (suc (left - 1)) rest bytes
  one = one_left r n tail left rest bytes some w

  pub goes_on : (rest / b ≡ 0 → ⊥) → IsUnderWay r n tail (left - 1) (rest / b) room
  goes_on h = subst (λ k. IsUnderWay r n tail (left - 1) (rest / k) room) (sym eb)
      (one_more r n tail (left - 1) rest digit bytes room one
      (is_digit r rest b digit eb told) put (subst (λ k. rest / k ≡ 0 → ⊥) eb h))

  pub ends : rest / b ≡ 0 → room ≡ digits (base r) false n ++ tail
  ends h = all_done r n tail (left - 1) rest digit bytes room one
      (is_digit r rest b digit eb told) put (subst (λ k. rest / k ≡ 0) eb h)

-- The digits of a frame, written from its last byte to its first ----------------------------------

-- the bytes from one on: that one before those behind it
pub one_byte : (frame : List ℕ) (left : ℕ) → 0 < left → left ≤ length frame
    → bytes_text (drop (left - 1) frame)
    ≡ with_byte (get_or frame (left - 1) 0) (bytes_text (drop left frame))
unfolding bytes_text
one_byte frame left some h =
    ap bytes_text (drop_more frame (left - 1) 0 (omega arith))
    ∙ ap (λ k. with_byte (get_or frame (left - 1) 0) (bytes_text (drop k frame))) (omega arith)

-- nothing is written before the first step
pub at_end : (frame tail : List ℕ) → length frame ≤ 53
    → tail ≡ bytes_text (drop 53 frame) ++ tail
unfolding bytes_text
at_end frame tail h = ap (λ bytes. bytes_text bytes ++ tail) (sym (drop_all 53 frame h))

-- as much is left to the right: nothing was written
pub nothing : (text tail room : List ℕ) → length room ≡ length tail → room ≡ text ++ tail
    → text ≡ []
nothing [] tail room e w = refl
nothing (code ∷ more) tail room e w =
    absurd (omega (arith, e, ap length w, length-append (code ∷ more) tail))

-- less is left: something was
pub something : (text tail room : List ℕ) → (length room ≡ length tail → ⊥)
    → room ≡ text ++ tail → text ≡ [] → ⊥
something text tail room h w e = h (ap length w ∙ ap (λ t. length (t ++ tail)) e)

by_some : (byte : ℕ) (text : List ℕ) → (text ≡ [] → ⊥)
    → with_byte byte text ≡ byte_text byte ++ text
by_some byte [] h = absurd (h refl)
by_some byte (code ∷ more) h = refl

by_zero : (byte : ℕ) (b : Bool) → b ≡ false
    → (if b then [] else byte_text byte) ≡ byte_text byte ++ []
by_zero byte true e = absurd (search arith)
by_zero byte false e = refl

by_byte : (byte : ℕ) (text : List ℕ) → (byte ≡ 0 → ⊥)
    → with_byte byte text ≡ byte_text byte ++ text
by_byte byte [] h = by_zero byte (byte == 0) (not_zero byte h)
by_byte byte (code ∷ more) h = refl

by_none : (byte : ℕ) (b : Bool) → b ≡ true → (if b then [] else byte_text byte) ≡ []
by_none byte true e = refl
by_none byte false e = absurd (search arith)

left_out : (byte : ℕ) (text : List ℕ) → byte ≡ 0 → text ≡ [] → with_byte byte text ≡ text
left_out byte [] e t = by_none byte (byte == 0) (is_zero byte e)
left_out byte (code ∷ more) e t = absurd (search (arith, t))

module _ (frame room tail : List ℕ) (left : ℕ) (some : 0 < left) (fits : left ≤ length frame)
    (w : room ≡ bytes_text (drop left frame) ++ tail) where
  -- this byte is written
  pub writes_byte : (new : List ℕ) → (get_or frame (left - 1) 0 ≡ 0 → ⊥)
      → new ≡ byte_text (get_or frame (left - 1) 0) ++ room
      → new ≡ bytes_text (drop (left - 1) frame) ++ tail
  writes_byte new h e =
      e ∙ ap (λ r. byte_text (get_or frame (left - 1) 0) ++ r) w
      ∙ ap (λ text. text ++ tail) (sym (one_byte frame left some fits
      ∙ by_byte (get_or frame (left - 1) 0) (bytes_text (drop left frame)) h))

  -- a zero is, where some byte behind it is
  pub writes_zero : (new : List ℕ) → (length room ≡ length tail → ⊥)
      → new ≡ byte_text (get_or frame (left - 1) 0) ++ room
      → new ≡ bytes_text (drop (left - 1) frame) ++ tail
  writes_zero new h e =
      e ∙ ap (λ r. byte_text (get_or frame (left - 1) 0) ++ r) w
      ∙ ap (λ text. text ++ tail) (sym (one_byte frame left some fits
      ∙ by_some (get_or frame (left - 1) 0) (bytes_text (drop left frame))
      (something (bytes_text (drop left frame)) tail room h w)))

  -- and else is left out
  pub leaves_out : get_or frame (left - 1) 0 ≡ 0 → length room ≡ length tail
      → room ≡ bytes_text (drop (left - 1) frame) ++ tail
  leaves_out z e =
      w ∙ ap (λ text. text ++ tail) (sym (one_byte frame left some fits
      ∙ left_out (get_or frame (left - 1) 0) (bytes_text (drop left frame)) z
      (nothing (bytes_text (drop left frame)) tail room e w)))

-- what is written stands as it is
pub as_it_is : (text tail room : List ℕ) → (length room ≡ length tail → ⊥)
    → room ≡ text ++ tail → room ≡ some_byte text ++ tail
as_it_is [] tail room h w = absurd (h (ap length w))
as_it_is (code ∷ more) tail room h w = w

-- where nothing is, the first byte is written
pub first_byte : (text tail room new : List ℕ) → length room ≡ length tail
    → room ≡ text ++ tail → new ≡ byte_text 0 ++ room → new ≡ some_byte text ++ tail
first_byte [] tail room new e w h = h ∙ ap (λ r. byte_text 0 ++ r) w
first_byte (code ∷ more) tail room new e w h =
    absurd (something (code ∷ more) tail room
    (λ same. omega (arith, same, ap length w, length-append (code ∷ more) tail)) w
    (nothing (code ∷ more) tail room e w))

-- A line ends where the room for it does, and is moved to where that begins -----------------------

-- the line feed stands last
pub line_feed_last : (room : List ℕ) → length room ≡ 256 → drop 255 (set room 255 10) ≡ 10 ∷ []
line_feed_last room long =
    drop-set room 255 10 (omega arith) ∙ ap (λ l. 10 ∷ l) (drop_all 256 room (omega arith))

-- what is moved to the beginning stands there
pub moved : (room : List ℕ) (start : ℕ) → length room ≡ 256 → start ≤ 256
    → take (256 - start) (copy_within room start (length room) 0) ≡ drop start room
moved room start long fits =
    let whole : length (drop start room) ≡ 256 - start =
    length-drop start room ∙ omega (arith, long) in
    let none : 256 - start ≡ 0 + (256 - start) = omega arith in
    ap (λ m. take (256 - start) (copy_within room start m 0)) long
    ∙ ap (λ m. take m (copy_within room start 256 0)) none
    ∙ take-paste room 0 (drop start room) (256 - start) (omega arith) (omega (arith, whole))
    ∙ take_all (256 - start) (drop start room) (omega (arith, whole))
