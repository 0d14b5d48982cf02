use Rattle.std.proofs.Common.{◌≡◌, inr, refl, subst, List, arith}
use Rattle.std.specs.Prelude.{MatchOption, None, Option, Some}
use Rattle.std.proofs.lemmas.Result.{err_from_is_err_and}
use Rattle.tuple_match.specs.FieldValue.{FieldValue}
use Rattle.qap_search.specs.Tuples.DecidedTuples.{IsNoPiece, piece_tuple}
use Rattle.qap_search.specs.declared.tuples.parsing.Piece.{Piece}
use Rattle.qap_search.specs.Certificate.Pieces.{told_tuples}
use Rattle.qap_search.proofs.CertificateLemmas.Assembled.{keep_fault, none_with, none_without_best, told_all}
use Rattle.qap_search.proofs.certificate.pieces.tell_apart.Goals as goal

-- what was told of the tuple, where that is known
told_of : (tuple : List FieldValue) (told known : Option Piece) → told ≡ known → MatchOption told (IsNoPiece tuple) (λ piece. piece_tuple piece ≡ tuple) → MatchOption known (IsNoPiece tuple) (λ piece. piece_tuple piece ≡ tuple)
told_of tuple told known is = subst (λ (o : Option Piece). MatchOption o (IsNoPiece tuple) (λ piece. piece_tuple piece ≡ tuple)) is

pub returns-in_default-told : goal.returns-in_default-told
returns-in_default-told c = λ n. inr (
  refl,
  none_with n c.args.tuples.items c.loop-tuple.tuples.items c.pop.new.self.items (told_tuples c.loop-tuple.best c.loop-tuple.decided.items)
      c.in-Some.tuple c.loop-tuple.invariant c.in-Some.ensures.items (told_of c.in-Some.tuple c.in_ok-told.told None c.in_default-told.is c.in_ok-told.ensures),
)

pub returns-in_err-keep_piece : goal.returns-in_err-keep_piece
returns-in_err-keep_piece c =
    let p = err_from_is_err_and c.from_residual-in_err-keep_piece.result c.from_residual-in_err-keep_piece.ensures.1 in
    rw (p.1, p.2) (λ n.
    keep_fault n c.args.tuples.items c.loop-tuple.tuples.items c.pop.new.self.items c.in-Some.tuple (piece_tuple c.in-Some-told.piece)
    c.loop-tuple.best c.loop-tuple.decided.items c.in_err-keep_piece.field-0.0 c.loop-tuple.invariant c.in-Some.ensures.items
    (told_of c.in-Some.tuple c.in_ok-told.told (Some c.in-Some-told.piece) c.in-Some-told.is c.in_ok-told.ensures)
    (c.in_err-keep_piece.ensures {u = tt}))

pub returns : goal.returns
returns c = λ n. inr (
  refl,
  none_without_best n c.args.tuples.items c.loop-tuple.best c.loop-tuple.decided.items c.in-None.is
      (told_all c.args.tuples.items c.loop-tuple.tuples.items (told_tuples c.loop-tuple.best c.loop-tuple.decided.items)
      (let none = (c.in_default.ensures {u = tt}).cases in let long = c.loop-tuple.tuples.ok.0 in omega arith) c.loop-tuple.invariant),
)
