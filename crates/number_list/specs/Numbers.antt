use Rattle.std.specs.Prelude.{List, ℤ, map, pos}
use Rattle.number_list.specs.declared.numbers.Numbers.{Numbers}
use Rattle.number_list.specs.declared.numbers.Numbers.TheVariants.{Bytes, Shorts, Narrow, Wide}

-- the numbers of a borrowed list, regardless of their width
abbrev pub numbers_in : Numbers → List ℤ
numbers_in (Bytes ns) = map pos ns.now
numbers_in (Shorts ns) = ns.now
numbers_in (Narrow ns) = ns.now
numbers_in (Wide ns) = ns.now
