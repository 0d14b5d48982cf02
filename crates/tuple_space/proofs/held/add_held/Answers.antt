use Rattle.std.proofs.Common.{◌∙◌, ap, arith}
use Rattle.tuple_space.specs.Held.{is_among, numbers_by}
use Rattle.tuple_space.proofs.HeldLemmas.{among_inserted, among_there, rising_inserted}
use Rattle.tuple_space.proofs.held.add_held.Goals as goal

pub returns-then-is_row_at-clause-among : goal.returns-then-is_row_at-clause-among
returns-then-is_row_at-clause-among c = λ holder n.
    let place = rw c.deref.ensures.value at c.place_for-place.ensures in
    let here = rw c.deref-2.ensures.value at c.if-is_row_at.ensures in
    among_there c.args.rows.now.items c.place_for-place.result c.args.new here.0 (λ d. (place.at here.0 d).0) here.1 holder n

pub returns-clause-rising : goal.returns-clause-rising
returns-clause-rising c = λ holder.
    let place = rw c.deref.ensures.value at c.place_for-place.ensures in
    let other = rw c.deref-2.ensures.value at c.if-is_row_at.ensures in
    let items = rw c.unwrap.ensures at c.insert.ensures.items in
    rw items (rising_inserted holder c.args.rows.now.items c.place_for-place.result c.args.new (c.requires.rising holder) place.within place.before
    (λ lt d. ((place.at lt d).0, (let most = (place.at lt d).1 in let ne = other lt d in omega arith))))

pub returns-clause-among : goal.returns-clause-among
returns-clause-among c = λ holder n.
    let items = rw c.unwrap.ensures at c.insert.ensures.items in
    ap (λ l. is_among n (numbers_by holder l)) items ∙ among_inserted c.args.rows.now.items c.place_for-place.result c.args.new holder n
