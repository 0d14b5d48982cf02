use Rattle.std.proofs.lemmas.Bool.Decides.{same_from_decides}
use Rattle.std.specs.Cmp.Lexicographic.{pointwise}
use Rattle.std.specs.Ordering.{int_eq}
use Rattle.number_list.specs.Numbers.{numbers_in}
use Rattle.number_list.proofs.Equal.{same_lists}
use Rattle.number_list.proofs.numbers.Numbers.is_same.Goals as goal

pub returns-in_default : goal.returns-in_default
returns-in_default c =
    let xs = numbers_in c.args.self.now in
    let ys = numbers_in c.args.other.now in
    same_from_decides c.are_same.result (pointwise int_eq xs ys) c.are_same.ensures (same_lists xs ys)
