use Rattle.std.proofs.Common.{◌≡◌, ◌++◌, ◌∷◌, [], map, take, length, sym, ap, ap₂, ◌∙◌, arith, length-set}
use Rattle.std.proofs.lemmas.List.{take_more, take_more_set, take_all, map_push}
use Rattle.terms.specs.declared.nodes.Node.TheVariants.{Lost}
use Rattle.residuals.specs.Marks.{mark_of}
use Rattle.residuals.proofs.marks.marks_of.Goals as goal

pub loop-at-preserved : goal.loop-at-preserved
loop-at-preserved g c =
    let by = mark_of g.K.Kind.meaning c.args.file.now c.args.r.now in
    let ns = c.args.nodes.now in
    let at = c.loop-at.at in
    let kept = c.loop-at.invariant in (
      length-set _ _ _ ∙ kept.0,
      take_more_set c.loop-at.marks at _ (omega (arith, kept.0, c.requires)) ∙ ap₂ (λ l y. l ++ y ∷ []) kept.1 c.mark_of.ensures
          ∙ sym (ap (map by) (take_more ns at Lost c.loop-at-test.true) ∙ map_push by (take at ns) _),
    )

pub returns : goal.returns
returns g c =
    let by = mark_of g.K.Kind.meaning c.args.file.now c.args.r.now in
    let ns = c.args.nodes.now in
    let end : length ns ≡ c.loop-at.at = omega (arith, c.loop-at-test.false, c.loop-at.auto.at-end) in
    ap (λ n. take n c.loop-at.marks) end ∙ c.loop-at.invariant.1 ∙ ap (map by) (take_all c.loop-at.at ns c.loop-at-test.false)
