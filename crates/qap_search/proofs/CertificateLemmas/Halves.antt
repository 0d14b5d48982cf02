-- Tuples in two lists: what is closed in each is closed in both together.
use Rattle.std.proofs.Common.{ℕ, ◌++◌, ◌∷◌, [], List, arith}
use Rattle.std.specs.List.{AllZip}
use Rattle.std.proofs.lemmas.List.Sums.{sum_by-append, sum_by-cons}
use Rattle.qap_cost.specs.Instance.{Problem}
use Rattle.space_txn.specs.Content.{SameItems}
use Rattle.tuple_match.specs.FieldValue.{FieldValue}
use Rattle.qap_search.specs.Certificate.ClosedTuples.{AreClosed, HasNoNode, IsClosedTuple}

module _ {X Y : Type 0} (R : X → Y → Type 0) where
  all_zip-append : (xs zs : List X) (ys ws : List Y) → AllZip R xs ys → AllZip R zs ws → AllZip R (xs ++ zs) (ys ++ ws)
  all_zip-append [] zs [] ws a b = b
  all_zip-append [] zs (y ∷ ys) ws a b = absurd a
  all_zip-append (x ∷ xs) zs [] ws a b = absurd a
  all_zip-append (x ∷ xs) zs (y ∷ ys) ws a b = (a.0, all_zip-append xs zs ys ws a.1 b)

-- tuples in two parts, each of which is closed, are closed together
pub both_closed : (I : Problem) (old front back new other : List (List FieldValue)) → SameItems old (front ++ back) → AreClosed I front new → AreClosed I back other → AreClosed I old (new ++ other)
both_closed I old front back new other same a b = record {
  sources = a.sources ++ b.sources;
  same = λ f.
      let whole = same f in
      let parts = sum_by-append f front back in
      let left = a.same f in
      let right = b.same f in
      let sources = sum_by-append f a.sources b.sources in
      omega arith;
  closed = all_zip-append (IsClosedTuple I) a.sources b.sources new other a.closed b.closed;
}

-- where a tuple of the front is named as an open node's and is none, one of all tuples is
pub none_in_front : (n : ℕ) (old front back : List (List FieldValue)) → SameItems old (front ++ back) → HasNoNode n front → HasNoNode n old
none_in_front n old front back same h = record {
  tuple = h.tuple;
  rest = h.rest ++ back;
  among = λ f.
      let whole = same f in
      let parts = sum_by-append f front back in
      let among = h.among f in
      let first = sum_by-cons f h.tuple h.rest in
      let again = sum_by-cons f h.tuple (h.rest ++ back) in
      let rest = sum_by-append f h.rest back in
      omega arith;
  wrong = h.wrong;
}

-- the same for the back
pub none_in_back : (n : ℕ) (old front back : List (List FieldValue)) → SameItems old (front ++ back) → HasNoNode n back → HasNoNode n old
none_in_back n old front back same h = record {
  tuple = h.tuple;
  rest = front ++ h.rest;
  among = λ f.
      let whole = same f in
      let parts = sum_by-append f front back in
      let among = h.among f in
      let first = sum_by-cons f h.tuple h.rest in
      let again = sum_by-cons f h.tuple (front ++ h.rest) in
      let rest = sum_by-append f front h.rest in
      omega arith;
  wrong = h.wrong;
}
