-- Identities of boards, and what the firmware is asked with them.
use Rattle.std.proofs.Common.{◌≡◌, ℕ, List, [], ◌∷◌, refl, map}
use Rattle.psci_abi.specs.Calls.{request_of}
use Rattle.psci_abi.specs.declared.registers.Regs.{Regs}
use Rattle.psci_abi.specs.declared.request.Request.{Request}
use Rattle.psci_abi.specs.declared.request.Request.TheVariants.{CpuOn, CpuSuspend, SystemSuspend}
use Rattle.psci_abi.specs.declared.registers.Format.{Format}
use Rattle.psci_abi.specs.declared.registers.Format.TheVariants.{Original, Extended}
use Rattle.psci_board.specs.Board.{BoardValue}
use Rattle.psci_fw_spec.specs.declared.mode.SuspendMode.TheVariants.{Platform}
use Rattle.psci_platform.specs.declared.asked.Asked.TheVariants.{Nothing, States}
use Rattle.psci_platform.specs.Calls.{regs_for}
use Rattle.psci_platform.specs.Described.{DescriptionValue}
use Rattle.psci_platform.specs.Identity.{asks_up_to, identity, own_asked}
use Rattle.psci_platform.proofs.Machines.{board, calling, regs}

-- What an identity has --------------------------------------------------------------------------

-- the words of a board of one cluster
abbrev words : Format → List ℕ
words format = map (λ r. r.word) (identity (board ((2 ∷ []) ∷ []) format)).rows

original_words : words Original
    ≡ 0x00000001 ∷ 0x00000002 ∷ 0x00010003 ∷ 0x01000011 ∷ 0x01000012 ∷ 0x01010013 ∷ 0x01000022
    ∷ 0x01010023 ∷ 0x01010033 ∷ []
unfolding asks_up_to
original_words = refl

extended_words : words Extended
    ≡ 0x00000001 ∷ 0x00000002 ∷ 0x40000003 ∷ 0x00000011 ∷ 0x00000012 ∷ 0x40000013 ∷ 0x00000022
    ∷ 0x40000023 ∷ 0x40000033 ∷ []
unfolding asks_up_to
extended_words = refl

-- two clusters of two cores, and the system
abbrev small : BoardValue
small = board ((2 ∷ 2 ∷ []) ∷ (2 ∷ []) ∷ []) Original

-- What the firmware is asked --------------------------------------------------------------------

-- the request that the firmware reads
abbrev asked : DescriptionValue → Regs → Request
asked d r = request_of (regs_for d small 0 Platform r)

-- a call of each function, and some of other words
abbrev some_calls : List Regs
some_calls =
    regs 0x84000000 9 8 7 ∷ regs 0xC4000001 0x01010033 0x40001000 7
    ∷ regs 0x84000001 0x02000112 0x40001000 7 ∷ regs 0x84000002 9 8 7
    ∷ regs 0xC4000003 0x101 0x40001000 7 ∷ regs 0x84000003 1 0x40001000 7
    ∷ regs 0xC4000004 0x100 0 7 ∷ regs 0x84000004 0x100 1 7 ∷ regs 0x84000006 9 8 7
    ∷ regs 0x84000008 9 8 7 ∷ regs 0x84000009 9 8 7 ∷ regs 0x8400000A 0xC4000001 8 7
    ∷ regs 0x8400000A 0x80000000 8 7 ∷ regs 0xC400000D 0 2 7 ∷ regs 0x8400000E 0x40001000 7 9
    ∷ regs 0x8400000F 1 8 7 ∷ regs 0xC4000012 0 8 7 ∷ regs 0x84000012 0x80000001 8 7
    ∷ regs 0x84000005 9 8 7 ∷ []

each_is_the_same : map (asked (identity small)) some_calls ≡ map request_of some_calls
unfolding calling asks_up_to
each_is_the_same = refl

-- what is told beside: the depths of the ask, and nothing of what is no power state
told_beside : map (own_asked small) (CpuSuspend 0x01010033 0x40001000 7
    ∷ CpuSuspend 0x01010003 0x40001000 7 ∷ SystemSuspend 0x40001000 7 ∷ CpuOn 0 0x40001000 7 ∷ [])
    ≡ States (3 ∷ 3 ∷ 0 ∷ 0 ∷ []) ∷ Nothing ∷ States (3 ∷ 3 ∷ 3 ∷ 0 ∷ []) ∷ Nothing ∷ []
told_beside = refl
