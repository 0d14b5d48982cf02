use Rattle.std.proofs.Common.{◌≡◌, ◌∙◌, subst, sym}
use Rattle.std.specs.Map.{keys_of}
use Rattle.plan_file.proofs.Members.{AreKnownNames, keys_known, names_known}
use Rattle.plan_file.proofs.plan.unknown_key.Goals as goal

pub loop-key-init : goal.loop-key-init
loop-key-init c =
    let entries = c.args.table.now.entries in
    let is : c.into_iter-key-iterator.result ≡ keys_of entries = c.into_iter-key-iterator.ensures.into_iter_gives ∙ c.keys-key-items.ensures.rest in
    record {
      can = tt;
      finite = tt;
      left = λ known. subst AreKnownNames (sym is) (names_known entries known);
      all = λ known. keys_known entries (subst AreKnownNames is known);
    }
