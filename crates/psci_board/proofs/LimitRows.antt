-- Worked examples: boards at the limits of what a board may be.
use Rattle.std.proofs.Common.{◌∷◌, [], arith, rules}
use Rattle.std.specs.Prelude.{replicate}
use Rattle.std.proofs.lemmas.List.Sums.{AllPass-from_list_all}
use Rattle.psci_board.specs.Board.{IsBoard}
use Rattle.psci_board.proofs.Boards.{board, uneven}

-- as many lives and starts as there may be, at height 3
most_lives : IsBoard (record uneven { lives = 65535; starts = 4294967295 })
most_lives = search (rules, arith, AllPass-from_list_all)

-- one life and one start
fewest_lives : IsBoard (record uneven { lives = 1; starts = 1 })
fewest_lives = search (rules, arith, AllPass-from_list_all)

-- one core
one_core : IsBoard (board ((1 ∷ []) ∷ []))
one_core = search (rules, arith, AllPass-from_list_all)

-- 256 cores, sixteen in each of sixteen clusters; and the last word of a range as boot address
most_cores : IsBoard (record (board (replicate 16 16 ∷ (16 ∷ []) ∷ [])) { boot = 0x400ffffc })
most_cores = search (rules, arith, AllPass-from_list_all)
