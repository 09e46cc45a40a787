-- Worked examples: which calls end a life.
use Rattle.psci_abi.specs.declared.request.Request.TheVariants as calls
use Rattle.psci_bench.specs.Watches.{EndsLife}

ends_a_life : EndsLife calls.SystemOff × EndsLife calls.SystemReset
    -- of the type that resets, of one that there is not, and of the vendor
    × EndsLife (calls.SystemReset2 0 0) × EndsLife (calls.SystemReset2 5 0)
    × EndsLife (calls.SystemReset2 0x80000001 7)
ends_a_life = (tt, tt, tt, tt, tt)

ends_no_life :
    -- a core that goes off, or takes the system down with it, does not
    ¬ (EndsLife calls.CpuOff) × ¬ (EndsLife (calls.SystemSuspend 0x40000000 0))
    × ¬ (EndsLife (calls.CpuOn 1 0x40000000 1))
    -- neither does a core that sleeps, be it with the whole system
    × ¬ (EndsLife (calls.CpuSuspend 0x3 0x40001000 2))
    -- nor does one that asks for something
    × ¬ (EndsLife calls.Version) × ¬ (EndsLife (calls.AffinityInfo 0 3))
    × ¬ (EndsLife calls.MigrateInfoType) × ¬ (EndsLife (calls.Features 0x84000008))
    × ¬ (EndsLife (calls.NodeHwState 2 0))
    -- or sets who decides on its states, or calls what is not there
    × ¬ (EndsLife (calls.SetSuspendMode 1)) × ¬ (EndsLife calls.Unknown)
ends_no_life = (
  λ ends. ends,
  λ ends. ends,
  λ ends. ends,
  λ ends. ends,
  λ ends. ends,
  λ ends. ends,
  λ ends. ends,
  λ ends. ends,
  λ ends. ends,
  λ ends. ends,
  λ ends. ends,
)
