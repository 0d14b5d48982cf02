use Rattle.std.proofs.Common.{sym, subst, arith, rules}
use Rattle.std.specs.Prelude.{codes}
use Rattle.tuple_match.specs.FieldValue.{IsField, word}
use Rattle.qap_search.proofs.TupleLemmas.Written.{four_fields}
use Rattle.qap_search.proofs.tuples.composing.tuple_of_closed.Goals as goal

pub of_four-requires : goal.of_four-requires
of_four-requires c =
    let name : IsField (word (codes "closed")) = search rules in
    four_fields _ _ _ _ (subst IsField (sym c.in_ok-name.ensures) name)
    (subst IsField (sym c.of_list-list.ensures) (omega (arith, c.in_ok-list_of.ensures.short)))
    (subst IsField (sym c.in_ok-u.ensures) (omega (arith, c.requires.u_count)))
    (subst IsField (sym c.in_ok-v.ensures) (omega (arith, c.requires.v_count)))
