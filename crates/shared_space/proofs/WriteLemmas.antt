use Rattle.std.proofs.Common.{◌≡◌, Bool, true, false, List, [], ◌∷◌, ◌++◌, ap, refl, cond}
use Rattle.std.specs.Prelude.{filter, map}
use Rattle.tuple_match.specs.FieldValue.{FieldValue}
use Rattle.tuple_space.specs.declared.lease.Lease.TheVariants.{Forever}
use Rattle.tuple_space.specs.declared.write.Write.{Write}
use Rattle.space_txn.specs.Content.{added_of, is_added}

abbrev tuples : List Write → List (List FieldValue)
tuples writes = map (λ x. x.tuple) writes

one_more : (b : Bool) (x : Write) (more fewer : List Write) (tuple : List FieldValue) → tuples more ≡ tuples fewer ++ tuple ∷ [] → tuples (cond b (x ∷ more) more) ≡ tuples (cond b (x ∷ fewer) fewer) ++ tuple ∷ []
one_more true x more fewer tuple is = ap (λ l. x.tuple ∷ l) is
one_more false x more fewer tuple is = is

-- one more permanent write, last, adds its tuple last
pub added_push : (writes : List Write) (tuple : List FieldValue) → added_of (writes ++ record { tuple = tuple; lease = Forever; taken = false } ∷ []) ≡ added_of writes ++ tuple ∷ []
added_push [] tuple = refl
added_push (x ∷ xs) tuple =
    one_more (is_added x) x (filter is_added (xs ++ record { tuple = tuple; lease = Forever; taken = false } ∷ [])) (filter is_added xs) tuple (added_push xs tuple)
