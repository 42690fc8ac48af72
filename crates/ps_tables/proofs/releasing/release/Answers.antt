use Rattle.std.proofs.Common.{◌<◌, ◌≤◌, length, sym, ap, ◌∙◌, subst, arith}
use Rattle.std.proofs.lemmas.List.{take_all}
use Rattle.std.specs.BTreeMap.{values}
use Rattle.ps_model.specs.Sound.{Ordered}
use Rattle.ps_tables.specs.Releasing.{message_number, released, times}
use Rattle.ps_tables.proofs.letting_go.Released.{released-more, released-none, released-ordered}
use Rattle.ps_tables.proofs.releasing.release.Goals as goal

pub loop-mark-init : goal.loop-mark-init
loop-mark-init c = record { numbered = c.requires.numbered; values = sym (released-none (values c.args.messages.now)) }

pub release_one-requires : goal.release_one-requires
release_one-requires c = record {
  numbered = c.loop-mark.invariant.numbered;
  ordered = subst (Ordered (λ a b. message_number a < message_number b)) (sym c.loop-mark.invariant.values) (released-ordered _ (values c.args.messages.now) c.requires.ordered);
}

pub loop-mark-preserved : goal.loop-mark-preserved
loop-mark-preserved c = record {
  numbered = c.release_one.ensures.numbered;
  values =
      c.release_one.ensures.values ∙ ap (released _) c.loop-mark.invariant.values
      ∙ released-more c.args.marks.now c.loop-mark.mark-index _ c.loop-mark-test.true (values c.args.messages.now);
}

pub returns : goal.returns
returns c =
    let all : length c.args.marks.now ≤ c.loop-mark.mark-index = omega arith in
    record {
      numbered = c.loop-mark.invariant.numbered;
      values = c.loop-mark.invariant.values ∙ ap (λ marks. released (times marks) (values c.args.messages.now)) (take_all c.loop-mark.mark-index c.args.marks.now all);
    }
