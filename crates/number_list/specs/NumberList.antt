use Rattle.std.specs.Prelude.{List, ℤ, map, pos}
use Rattle.number_list.specs.declared.lists.NumberList.{NumberList}
use Rattle.number_list.specs.declared.lists.NumberList.TheVariants.{Bytes, Shorts, Narrow, Wide}

-- the numbers of a list, regardless of their width
abbrev pub numbers_held : NumberList → List ℤ
numbers_held (Bytes few) = map pos few
numbers_held (Shorts few) = few
numbers_held (Narrow ns) = ns.items
numbers_held (Wide ns) = ns.items
