-- The grammar of board texts: what a board text is, and how each is spelled.
use Rattle.std.specs.Char.{is_ascii_digit, is_ascii_hexdigit}
use Rattle.std.specs.Fmt.{decimal}
use Rattle.std.specs.List.{All, AllPass, prefix_len}
use Rattle.std.specs.Prelude.{◌&&◌, ◌++◌, ◌<◌, ◌==◌, ◌^◌, ◌||◌, ◌∷◌, ◌≡◌, ◌≤◌, [], Bool, codes}
use Rattle.std.specs.Prelude.{drop, false, flat_map, if◌then◌else◌, length, List, nat_le, nat_lt}
use Rattle.std.specs.Prelude.{None, not, Option, option_and_then, slice_index, Some, take, ℕ}
use Rattle.std.specs.Str.Parse.{digits_value}
use Rattle.psci_board.specs.psci_abi.declared.registers.Format.{Format}
use Rattle.psci_board.specs.psci_abi.declared.registers.Format.TheVariants.{Extended, Original}

-- Digits at the front of a text -------------------------------------------------------------------

-- the value of the digits, all that stand there, and how many they are
abbrev pub value_and_count : ℕ → (ℕ → Bool) → List ℕ → ℕ × ℕ
value_and_count radix is_digit bytes =
    (digits_value radix (take (prefix_len is_digit bytes) bytes), prefix_len is_digit bytes)

-- Read words --------------------------------------------------------------------------------------
-- Reading a text from left to right. What is read is a value and the bytes after it.

infixl 10 ◌>>=◌
-- what is read next, where something was read
abbrev pub ◌>>=◌ : {A B : Type 0} → Option A → (A → Option B) → Option B
o >>= f = option_and_then f o

-- these very bytes
unfoldable pub literal_at : List ℕ → List ℕ → Option (List ℕ)
literal_at [] bytes = Some bytes
literal_at (w ∷ ws) [] = None
literal_at (w ∷ ws) (b ∷ bs) = if b == w then literal_at ws bs else None

-- a number has no leading zero, unless it is 0 itself
abbrev pub is_number : List ℕ → Bool
is_number digits = nat_lt 0 (length digits)
    && ((length digits == 1 || not (slice_index digits 0 == 48))
    && nat_lt (digits_value 10 digits) (2 ^ 64))

-- a number: all digits that stand there, if they are one
unfoldable pub number_at : List ℕ → Option (ℕ × List ℕ)
number_at bytes = let n = prefix_len is_ascii_digit bytes in
    if is_number (take n bytes) then Some (digits_value 10 (take n bytes), drop n bytes) else None

-- the digits of a hexadecimal number
unfoldable pub hex_at : List ℕ → Option (List ℕ × List ℕ)
hex_at bytes = do
  rest ← literal_at (codes "0x") bytes
  let n = prefix_len is_ascii_hexdigit rest
  if nat_lt 0 n && nat_le n 16 then Some (take n rest, drop n rest) else None

-- its value, and the bytes after it
abbrev pub hex_value : List ℕ × List ℕ → ℕ × List ℕ
hex_value x = (digits_value 16 x.0, x.1)

-- a space, and what follows it
unfoldable pub spaced_at : {A : Type 0} → (List ℕ → Option (A × List ℕ)) → List ℕ
    → Option (A × List ℕ)
spaced_at item bytes = literal_at (codes " ") bytes >>= item

-- How words and numbers are spelled, and what it means that they are read so ----------------------

-- a hexadecimal number: 0x and its digits, since these can differ in case and in leading zeros
abbrev pub hex : List ℕ → List ℕ
hex digits = 48 ∷ 120 ∷ digits

-- a number that has a spelling
abbrev pub IsNumber : ℕ → Type 0
IsNumber n = n < 2 ^ 64

-- a hexadecimal number has 1 to 16 digits
pub record IsHex (digits : List ℕ) : Type 0 where
  pub some : 0 < length digits
  pub most : length digits ≤ 16
  pub each : AllPass is_ascii_hexdigit digits

-- no byte of the kind comes next
abbrev pub Ends : (ℕ → Bool) → List ℕ → Type 0
Ends kind [] = Unit {0}
Ends kind (b ∷ bs) = kind b ≡ false

-- An item is read as it is spelled, where no byte of the kind follows it, and in no other way.
pub record Reads {A : Type 0} (item : List ℕ → Option (A × List ℕ)) (spell : A → List ℕ)
    (P : A → Type 0) (kind : ℕ → Bool) : Type 0 where
  pub again : (x : A) (rest : List ℕ) → P x → Ends kind rest
      → item (spell x ++ rest) ≡ Some (x, rest)
  pub takes : (bytes : List ℕ) (x : A × List ℕ) → item bytes ≡ Some x
      → P x.0 × (bytes ≡ spell x.0 ++ x.1)

-- what is spelled is read so, and what is read is spelled so
pub record TextLaws : Type 0 where
  -- a word is read where it stands, whatever follows it
  pub word_again : (word rest : List ℕ) → literal_at word (word ++ rest) ≡ Some rest
  -- and nowhere else
  pub word_takes : (word bytes rest : List ℕ) → literal_at word bytes ≡ Some rest
      → bytes ≡ word ++ rest
  -- a number, where no further digit follows
  pub numbers : Reads number_at decimal IsNumber is_ascii_digit
  -- a hexadecimal number, where no further digit follows
  pub hexadecimals : Reads hex_at hex IsHex is_ascii_hexdigit

-- Grammar -----------------------------------------------------------------------------------------

-- a member of the outer list: a number, or a list of numbers
pub data Member : Type 0 where
  Cluster : ℕ → Member
  Group : List ℕ → Member

-- the tree: a number, which is one cluster, or a list of members
pub data TreeText : Type 0 where
  One : ℕ → TreeText
  Members : List Member → TreeText

-- A board text. An address is given by its digits, since it can be written in several ways. The
-- format may be missing.
pub record BoardText : Type 0 where
  pub tree : TreeText
  pub ranges : List (List ℕ × List ℕ)
  pub boot : List ℕ
  pub starts : ℕ
  pub lives : ℕ
  pub format : Option Format

-- *(" " item)
abbrev pub spaced : {A : Type 0} → (A → List ℕ) → List A → List ℕ
spaced item xs = flat_map (λ x. 32 ∷ item x) xs

-- "(" item *(" " item) ")"
abbrev pub bracketed : {A : Type 0} → (A → List ℕ) → List A → List ℕ
bracketed item [] = []
bracketed item (x ∷ xs) = 40 ∷ item x ++ (spaced item xs ++ 41 ∷ [])

-- a range: two addresses with a hyphen between them
abbrev pub range : List ℕ × List ℕ → List ℕ
range r = hex r.0 ++ 45 ∷ hex r.1

-- a member: a number, or the numbers of a group in brackets
abbrev pub member : Member → List ℕ
member (Cluster n) = decimal n
member (Group ns) = bracketed decimal ns

-- a tree: a number, or its members in brackets
abbrev pub tree : TreeText → List ℕ
tree (One n) = decimal n
tree (Members ms) = bracketed member ms

-- the last part: the format by its name, or nothing where it is missing
abbrev pub format_part : Option Format → List ℕ
format_part None = []
format_part (Some Original) = codes " format original"
format_part (Some Extended) = codes " format extended"

-- the spelling of a board text
abbrev pub spelling : BoardText → List ℕ
spelling t = tree t.tree ++ (codes " exec" ++ (spaced range t.ranges ++ (codes " boot "
    ++ (hex t.boot ++ (codes " starts " ++ (decimal t.starts
    ++ (codes " lives " ++ (decimal t.lives ++ format_part t.format))))))))

-- What has a spelling.
-- a range of two addresses
pub record IsRange (r : List ℕ × List ℕ) : Type 0 where
  pub start : IsHex r.0
  pub end : IsHex r.1

-- one item or more
pub record IsListOf {A : Type 0} (P : A → Type 0) (xs : List A) : Type 0 where
  pub some : 0 < length xs
  pub each : All P xs

-- a member whose numbers have a spelling, of one cluster or more
abbrev pub IsMember : Member → Type 0
IsMember (Cluster n) = IsNumber n
IsMember (Group ns) = IsListOf IsNumber ns

-- a tree of one member or more, whose numbers have a spelling
abbrev pub IsTreeText : TreeText → Type 0
IsTreeText (One n) = IsNumber n
IsTreeText (Members ms) = IsListOf IsMember ms

-- a text of the grammar
pub record IsBoardText (t : BoardText) : Type 0 where
  pub tree : IsTreeText t.tree
  pub ranges : IsListOf IsRange t.ranges
  pub boot : IsHex t.boot
  pub starts : IsNumber t.starts
  pub lives : IsNumber t.lives
