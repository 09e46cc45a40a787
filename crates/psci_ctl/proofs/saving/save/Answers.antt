-- Behind the heading stand the cores, then the domains; at last comes the sum.
use Rattle.std.proofs.Common.{arith, length, map, flat_map}
use Rattle.std.proofs.lemmas.List.{length-append, length-map}
use Rattle.psci_ctl.specs.Saved.{core_word, depths}
use Rattle.psci_ctl.proofs.SavedFaults.{written}
use Rattle.psci_ctl.proofs.saving.save.Goals as goal

pub returns : goal.returns
returns c =
    let own = map core_word c.args.cores.now in
    let deep = flat_map depths c.args.levels.now in
    written c.args.words.now c.save_cores.new.words c.save_domains.new.words c.args.life
    c.sum_of.result (length c.args.cores.now) own deep
    (omega (
      arith,
      c.requires,
      length-append own deep,
      length-map c.args.cores.now core_word,
    ))
    (omega (
      arith,
      c.save_cores.auto.words,
      c.save_domains.auto.words,
    ))
    c.save_cores.ensures c.save_domains.ensures c.sum_of.ensures
