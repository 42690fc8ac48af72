use Rattle.std.proofs.Common.{◌≡◌, ◌<◌, ◌+◌, ◌++◌, ℕ, slice_index_or, sym, ap, subst, ◌∙◌, arith}
use Rattle.std.specs.BTreeMap.{values}
use Rattle.std.specs.List.{AllByRecursion}
use Rattle.ps_model.specs.Forwarding.{message_rows}
use Rattle.ps_tables.specs.Entering.{kept_rows}
use Rattle.ps_tables.proofs.publishing.Keeping.{below-next, kept-all, kept-one}
use Rattle.ps_tables.proofs.entering.keep_each.Goals as goal

pub loop-place-init : goal.loop-place-init
loop-place-init c =
    let first : c.args.first ≡ c.args.first + 0 = omega arith in
    record {
      keys = c.requires.keys;
      below = subst (λ (n : ℕ). AllByRecursion (λ x. x.row.number < n) (values c.args.kept.now)) first c.requires.below;
      left = ap (λ (n : ℕ). values c.args.kept.now ++ kept_rows (message_rows c.args.topic n c.args.at c.args.messages.now) c.args.holders.now) (sym first);
    }

pub loop-place-preserved : goal.loop-place-preserved
loop-place-preserved c =
    let i = c.loop-place.place in
    let m = c.index-messages-place.result in
    let made = c.in_ok-keep_one.ensures.kept in
    let old = values c.loop-place.kept in
    let new = values c.keep_one.new.kept in
    let n = slice_index_or c.args.holders.now i 0 in
    record {
      keys = c.in_ok-keep_one.ensures.keys;
      below = below-next c.args.topic c.args.first c.args.at i m n old new made c.loop-place.invariant.below;
      left = kept-one c.args.topic c.args.first c.args.at i c.args.messages.now c.args.holders.now m old new c.loop-place-test.true (omega (arith, c.requires.each, c.loop-place-test.true)) (sym c.index-messages-place.is) made ∙ c.loop-place.invariant.left;
    }

pub returns-clause-kept : goal.returns-clause-kept
returns-clause-kept c =
    sym (kept-all c.args.topic (c.args.first + c.loop-place.place) c.args.at c.loop-place.place c.args.messages.now c.args.holders.now (values c.loop-place.kept) (omega arith)) ∙ c.loop-place.invariant.left
