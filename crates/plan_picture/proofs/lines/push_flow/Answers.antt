use Rattle.std.proofs.Common.{◌≡◌, ◌<◌, ◌∙◌, List, ap, arith, get_or, sym, true, ℕ, [], rules}
use Rattle.std.specs.Prelude.{if◌then◌else◌, nat_lt, string_bytes}
use Rattle.std.proofs.lemmas.Bool.{lt-ltb}
use Rattle.qap_cost.specs.Instance.{Problem}
use Rattle.plan_picture.specs.Arrows.{centre_of}
use Rattle.plan_picture.specs.Drawing.{flow_mark}
use Rattle.plan_picture.specs.Flows.{flow_between, largest_flow, width_of}
use Rattle.plan_picture.specs.Marks.{line_mark}
use Rattle.plan_picture.specs.declared.layout.Centre.{Centre}
use Rattle.plan_picture.proofs.lines.push_flow.Goals as goal

line_drawn : (I : Problem) (p : List ℕ) (centres : List Centre) (i j flow most here there tenths : ℕ) (line : List ℕ) → flow ≡ flow_between I i j → 0 < flow → most ≡ largest_flow I
    → here ≡ get_or p i 0 → there ≡ get_or p j 0 → tenths ≡ width_of flow most → line ≡ line_mark (centre_of centres here) (centre_of centres there) tenths → line ≡ flow_mark I p centres i j
line_drawn I p centres i j flow most here there tenths line flow_is some most_is here_is there_is tenths_is line_is =
    let yes : nat_lt 0 (flow_between I i j) ≡ true = ap (nat_lt 0) (sym flow_is) ∙ lt-ltb 0 flow some in
    let width : tenths ≡ width_of (flow_between I i j) (largest_flow I) = tenths_is ∙ ap (λ f. width_of f most) flow_is ∙ ap (width_of (flow_between I i j)) most_is in
    line_is
    ∙ ap (λ k. line_mark (centre_of centres k) (centre_of centres there) tenths) here_is
    ∙ ap (λ k. line_mark (centre_of centres (get_or p i 0)) (centre_of centres k) tenths) there_is
    ∙ ap (line_mark (centre_of centres (get_or p i 0)) (centre_of centres (get_or p j 0))) width
    ∙ sym (ap (λ t. if t then line_mark (centre_of centres (get_or p i 0)) (centre_of centres (get_or p j 0)) (width_of (flow_between I i j) (largest_flow I)) else []) yes)

pub returns : goal.returns
returns c =
    let x = c.args.arrangement.now in
    let value = c.locations-locations.ensures.value in
    let here = c.from.ensures ∙ ap (λ (l : List ℕ). get_or l c.args.i 0) value in
    let there = c.from-2.ensures ∙ ap (λ (l : List ℕ). get_or l c.args.j 0) value in
    let mark = line_drawn x.instance.now x.permutation.now x.centres.now c.args.i c.args.j c.flow_between-flow.result x.most c.from.result c.from-2.result c.width_of.result
    (string_bytes c.in_ok-line.line) c.flow_between-flow.ensures.value (omega arith) c.requires.most here there c.width_of.ensures c.in_ok-line.ensures in
    let bytes : c.as_bytes.result.now ≡ flow_mark x.instance.now x.permutation.now x.centres.now c.args.i c.args.j = c.as_bytes.ensures.value ∙ mark in
    rw (← bytes) (search rules)
