use Rattle.number_list.specs.Numbers.{numbers_in}
use Rattle.qap_search.proofs.CertificateLemmas.Finishing.{no_other-permutation, no_small-no_permutation}
use Rattle.qap_search.proofs.tuples.parsing.permutation_of.Goals as goal

pub returns-in_default : goal.returns-in_default
returns-in_default c =
    let none = rw c.in_default.is at c.in_ok-locations.ensures in
    no_small-no_permutation (numbers_in c.args.locations.now) none

pub returns : goal.returns
returns c =
    let is = rw c.in-Some.is at c.in_ok-locations.ensures in
    no_other-permutation (numbers_in c.args.locations.now) c.in-Some.locations.items is c.in-Err.ensures.2
