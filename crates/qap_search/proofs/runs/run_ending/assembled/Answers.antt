use Rattle.std.proofs.Common.{sym, subst}
use Rattle.qap_search.specs.Certificate.Assembling.{IsTreeFault}
use Rattle.qap_search.specs.Certificate.Finished.{IsAssembled}
use Rattle.qap_search.proofs.RunLemmas.Outcomes.{never_open, no_certificate_there}
use Rattle.qap_search.proofs.runs.run_ending.assembled.Goals as goal

pub unreachable-requires : goal.unreachable-requires
unreachable-requires c =
    let n = c.size-size.result in
    let tuples = c.args.tuples.items in
    never_open n tuples c.in-Err-Unfinished.field-0-0 (subst (IsTreeFault n tuples) c.in-Err-Unfinished.field-0-is (c.in-Err-Unfinished.ensures {u = tt}))

pub unreachable-requires-in-Err-NotATree : goal.unreachable-requires-in-Err-NotATree
unreachable-requires-in-Err-NotATree c =
    let I = c.args.instance.now in
    let n = c.size-size.result in
    let tuples = c.args.tuples.items in
    let none = no_certificate_there n tuples (subst (IsTreeFault n tuples) c.in-Err-NotATree.field-0-is (c.in-Err-NotATree.ensures {u = tt})) in
    let found = c.certificate_law.ensures.there I c.requires.tree.0 tuples c.requires.tree.1 c.size-size.ensures.instance c.requires.tree.2 c.requires.none_open in
    none found.0 (subst (λ n. IsAssembled n tuples found.0) (sym c.size-size.ensures.value) found.1)

pub returns-in-Ok-clause-assembled : goal.returns-in-Ok-clause-assembled
returns-in-Ok-clause-assembled c =
    subst (λ n. IsAssembled n c.args.tuples.items c.in-Ok.certificate) c.size-size.ensures.value (c.in-Ok.ensures {u = tt})

pub returns-in-Ok-clause-certifies : goal.returns-in-Ok-clause-certifies
returns-in-Ok-clause-certifies c = λ known commits tree.
    let I = c.args.instance.now in
    let tuples = c.args.tuples.items in
    let C = c.in-Ok.certificate in
    let assembled : IsAssembled I.size tuples C = subst (λ n. IsAssembled n tuples C) c.size-size.ensures.value (c.in-Ok.ensures {u = tt}) in
    record {
      certificate = assembled.certificate;
      certified = c.certificate_law.ensures.certifies I known tuples commits C tree assembled;
      closed = assembled.closed;
      nodes_are = c.certificate_law.ensures.counted I known tuples commits C tree assembled;
    }
