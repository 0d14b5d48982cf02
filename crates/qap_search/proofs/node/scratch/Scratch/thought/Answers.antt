use Rattle.std.proofs.Common.{◌≡◌, ℕ, ℤ, List, length, sym, subst, ◌∙◌, ap₂, arith}
use Rattle.std.specs.Int.{w128}
use Rattle.std.proofs.lemmas.Int.{fits_signed_from_abs, ints}
use Rattle.gilmore_lawler.specs.Closing.{AreDuals}
use Rattle.qap_cost.specs.Matrix.{dual_value}
use Rattle.qap_cost.specs.Placement.{ListsFree}
use Rattle.qap_cost.specs.Completion.{IsCompletion, IsMatching}
use Rattle.qap_search.proofs.NodeLemmas.Thoughts.{duals_of, within_more}
use Rattle.qap_search.proofs.node.scratch.Scratch.thought.Goals as goal

pub overflow_add-value : goal.overflow_add-value
overflow_add-value c = fits_signed_from_abs w128 _ (omega (arith, ints, c.dual_sum.ensures.bounded, c.fixed_cost.ensures.bounded))

pub branch_of-branch-requires-clause-free : goal.branch_of-branch-requires-clause-free
branch_of-branch-requires-clause-free c =
    let x = c.args.node.now in
    let facilities = c.in_ok-list_free_facilities.ensures in
    let locations = c.in_ok-list_free_locations.ensures in
    record {
      facilities = c.deref.ensures.value ∙ facilities.value;
      locations = c.deref-2.ensures.value ∙ locations.value;
      facilities_listed = subst (λ (xs : List ℕ). ListsFree x.size x.facilities xs) (sym c.deref.ensures.value) facilities.free;
      locations_listed = subst (λ (xs : List ℕ). ListsFree x.size x.places xs) (sym c.deref-2.ensures.value) locations.free;
    }

pub branch_of-branch-requires-clause-duals : goal.branch_of-branch-requires-clause-duals
branch_of-branch-requires-clause-duals c =
    let a = c.in_ok-solve_into.ensures.least in
    let answer = c.solve_into.new.answer in
    let duals : AreDuals (length answer.matching.items) answer.u.items answer.v.items = record {
      rows = omega (arith, a.fits.u_count, a.assigns.same_size);
      columns = omega (arith, a.fits.v_count, a.assigns.same_size);
      u_range = within_more _ _ _ (omega arith) (a.u_range _ c.requires.bounded);
      v_range = within_more _ _ _ (omega arith) (a.v_range _ c.requires.bounded);
    } in
    subst (λ (q : List ℕ). AreDuals (length q) c.deref-7.result.now c.deref-8.result.now) (sym c.deref-6.ensures.value)
    (subst (λ (u : List ℤ). AreDuals (length answer.matching.items) u c.deref-8.result.now) (sym c.deref-7.ensures.value)
    (subst (λ (v : List ℤ). AreDuals (length answer.matching.items) answer.u.items v) (sym c.deref-8.ensures.value) duals))

pub branch_of-branch-requires-clause-matching : goal.branch_of-branch-requires-clause-matching
branch_of-branch-requires-clause-matching c =
    let x = c.args.node.now in
    let a = c.in_ok-solve_into.ensures.least.assigns in
    subst (IsMatching x) (sym c.deref-6.ensures.value) (record {
      bijection = a.bijection;
      count = omega (arith, a.same_size, c.requires.reduced.size);
    })

pub returns : goal.returns
returns c =
    let I = c.args.instance.now in
    let x = c.args.node.now in
    let M = c.args.matrix.now in
    let answer = c.solve_into.new.answer in
    let a = c.in_ok-solve_into.ensures.least in
    let done = c.in_ok-candidate.ensures in
    let completes = subst (λ (q : List ℕ). IsCompletion x q c.in_ok-candidate.candidate) c.deref-3.ensures.value done.completion in
    let duals : c.dual_sum.result ≡ dual_value answer.u.items answer.v.items =
    c.dual_sum.ensures.value ∙ ap₂ dual_value c.deref-4.ensures.value c.deref-5.ensures.value in
    record {
      matrix = M;
      square = c.matrix_law.ensures;
      reduced = c.requires.reduced;
      duals = duals_of I x M answer.u.items answer.v.items c.in_ok-list_free_facilities.ensures.placement c.requires.reduced a.fits (within_more _ _ _ (omega arith) (a.u_range _ c.requires.bounded)) (within_more _ _ _ (omega arith) (a.v_range _ c.requires.bounded));
      fits = a.fits;
      matching = answer.matching.items;
      assigns = a.assigns;
      reached = a.equal;
      value = omega (arith, ints, duals, c.dual_sum.ensures.bounded, c.fixed_cost.ensures.value, c.fixed_cost.ensures.bounded);
      completes = completes;
      permutes = record { bijection = done.completes.bijection; same_size = completes.same_size ∙ sym c.requires.same_size };
      costs = omega (arith, ints, c.cost-cost.ensures.value, c.cost-cost.ensures.bounded);
      branch = c.branch_of-branch.ensures;
    }
