use Rattle.std.proofs.Common.{rules, ◌≡◌, map, sym, ◌∙◌, ap, ap₂, subst}
use Rattle.std.proofs.lemmas.Bool.{false≢true}
use Rattle.pair_duals.specs.PairDuals.{AreDuals, Duals, Fit}
use Rattle.proof_check.specs.Judge.{wide}
use Rattle.proof_check.proofs.ListedOnce.{AreDuals-made, IsInScale-instance}
use Rattle.proof_check.proofs.OneDuals.{one_duals}
use Rattle.proof_tree.specs.Valid.{AreListed}
use Rattle.proof_check.specs.Rows.{lists_of, rows_of}
use Rattle.proof_check.proofs.ListedDuals.{AreListed-counted, duals_of, map-itself}
use Rattle.proof_check.proofs.listed.listed.Goals as goal

pub returns-clause-found : goal.returns-clause-found
returns-clause-found c =
    let made = rw c.in-Some.is at c.new.ensures in
    let y = c.args.node.now in
    let scale = c.args.scale in
    let rows = lists_of c.args.rows.now in
    let fs = c.in_ok-facilities.facilities.items in
    let ls = c.in_ok-locations.locations.items in
    let a = c.in_ok-alpha.alpha.items in
    let b = c.in_ok-beta.beta.items in
    let is : c.in-Some.duals ≡ duals_of y.size fs ls scale a b =
    made.0 ∙ ap (λ n. duals_of n fs ls scale (map (λ x. x) a) (map (λ x. x) b)) c.size.ensures.value ∙ ap₂ (λ x z. duals_of y.size fs ls scale x z) (map-itself a) (map-itself b) in
    let listed = AreListed-counted y scale c.len-m.result rows fs ls a b (c.len-m.ensures ∙ c.in_ok-facilities.facilities.ok.0) c.in_ok-facilities.ensures.value c.in_ok-locations.ensures.value c.in_ok-alpha.ensures c.in_ok-beta.ensures in
    (subst (λ (D : Duals). AreListed y (rows_of scale rows) D) (sym is) listed, c.fits.ensures.0 (search rules), c.is_in_scale.ensures.0 (search rules))

pub returns-in_default-clause-none : goal.returns-in_default-clause-none
returns-in_default-clause-none c = λ D listed fit.
    let y = c.args.node.now in
    let scale = c.args.scale in
    let rows = lists_of c.args.rows.now in
    let fs = c.in_ok-facilities.facilities.items in
    let ls = c.in_ok-locations.locations.items in
    let a = c.in_ok-alpha.alpha.items in
    let b = c.in_ok-beta.beta.items in
    let made = AreDuals-made y scale c.len-m.result rows fs ls a b c.free_facilities.ensures.placement (c.len-m.ensures ∙ c.in_ok-facilities.facilities.ok.0) c.in_ok-facilities.ensures.value c.in_ok-locations.ensures.value c.requires.rows c.in_ok-alpha.ensures c.in_ok-beta.ensures in
    let is : duals_of y.size fs ls scale a b ≡ duals_of c.size.result fs ls scale (map (λ x. x) a) (map (λ x. x) b) =
    ap (λ n. duals_of n fs ls scale a b) (sym c.size.ensures.value) ∙ ap₂ (λ x z. duals_of c.size.result fs ls scale x z) (sym (map-itself a)) (sym (map-itself b)) in
    absurd (c.in_default.ensures (subst (AreDuals wide) is made))

pub returns-then-not-is_in_scale-clause-none : goal.returns-then-not-is_in_scale-clause-none
returns-then-not-is_in_scale-clause-none c = λ D listed fit.
    let in_scale = c.is_in_scale.ensures.1 (IsInScale-instance c.args.instance.now c.args.scale c.instance_law.ensures c.requires.rows.scale) in
    absurd (false≢true (sym c.if-not-is_in_scale.true ∙ in_scale))

pub returns-then-not-fits-clause-none : goal.returns-then-not-fits-clause-none
returns-then-not-fits-clause-none c = λ D listed fit.
    let made = rw c.in-Some.is at c.new.ensures in
    let y = c.args.node.now in
    let scale = c.args.scale in
    let rows = lists_of c.args.rows.now in
    let fs = c.in_ok-facilities.facilities.items in
    let ls = c.in_ok-locations.locations.items in
    let a = c.in_ok-alpha.alpha.items in
    let b = c.in_ok-beta.beta.items in
    let is : c.in-Some.duals ≡ duals_of y.size fs ls scale a b =
    made.0 ∙ ap (λ n. duals_of n fs ls scale (map (λ x. x) a) (map (λ x. x) b)) c.size.ensures.value ∙ ap₂ (λ x z. duals_of y.size fs ls scale x z) (map-itself a) (map-itself b) in
    let own = AreListed-counted y scale c.len-m.result rows fs ls a b (c.len-m.ensures ∙ c.in_ok-facilities.facilities.ok.0) c.in_ok-facilities.ensures.value c.in_ok-locations.ensures.value c.in_ok-alpha.ensures c.in_ok-beta.ensures in
    let same : D ≡ c.in-Some.duals = one_duals y (rows_of scale rows) D (duals_of y.size fs ls scale a b) listed own ∙ sym is in
    let fits = c.fits.ensures.1 (subst (Fit c.args.instance.now) same fit) in
    absurd (false≢true (sym c.if-not-fits.true ∙ fits))
