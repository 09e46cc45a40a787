-- Worked examples of what has a spelling, and of what may follow it.
use Rattle.std.proofs.Common.{[], refl, arith, rules}
use Rattle.std.proofs.lemmas.List.Sums.{AllPass-from_list_all}
use Rattle.std.specs.Prelude.{codes}
use Rattle.std.specs.Char.{is_ascii_digit}
use Rattle.psci_board.specs.Grammar.{Ends, IsHex, IsNumber}

-- the largest number, and the one after it
largest_number : IsNumber 18446744073709551615
largest_number = omega arith

number_after_it : IsNumber 18446744073709551616 → ⊥
number_after_it less = omega (arith, less)

-- hexadecimal digits: one and sixteen, none and seventeen
one_digit : IsHex (codes "f")
one_digit = search (rules, arith, AllPass-from_list_all)

sixteen_digits : IsHex (codes "0123456789abcDEF")
sixteen_digits = search (rules, arith, AllPass-from_list_all)

no_digit : IsHex [] → ⊥
no_digit h = omega (arith, h.some)

seventeen_digits : IsHex (codes "00000000000000000") → ⊥
seventeen_digits h = omega (arith, h.most)

-- what follows a number: nothing, another byte, and one more digit
at_the_end : Ends is_ascii_digit []
at_the_end = tt

before_a_letter : Ends is_ascii_digit (codes "a1")
before_a_letter = refl

before_a_digit : Ends is_ascii_digit (codes "1a") → ⊥
before_a_digit e = absurd (cc (e))
