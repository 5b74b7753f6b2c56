use Rattle.std.proofs.Common.{sym, refl, subst}
use Rattle.language.specs.Terms.{Term}
use Rattle.language.specs.Residuals.{residual}
use Rattle.openings.specs.declared.known.Openings.{Openings}
use Rattle.openings.specs.Clauses.{templates_of}
use Rattle.terms.specs.Tables.{Holds, SomeTerm, places}
use Rattle.terms.specs.Results.{Replaced}
use Rattle.terms.proofs.Writing.{held_before}
use Rattle.held.proofs.Reading.{found}
use Rattle.held.proofs.Taking.{still_whole}
use Rattle.held.proofs.held.Held.take.Goals as goal

pub hold-requires : goal.hold-requires
hold-requires g c =
    let self = c.args.self.now in
    let tree = found self.foreseen.prospect.openings.read.file self.table.items self.whole in
    record { tree = subst (λ (o : Openings). SomeTerm o.read.file (places self.table) 0) (sym c.openings.ensures) (record { term = tree.term; held = held_before _ _ self.table.spare 0 tree.term tree.whole.0 }) }

pub invariant_of-self : goal.invariant_of-self
invariant_of-self g c =
    let self = c.args.self.now in
    let tree = found self.foreseen.prospect.openings.read.file self.table.items self.whole in
    let replaced = subst (λ (o : Openings). (t : Term) → Holds o.read.file (places self.table) 0 t → Replaced o.read.file (residual g.K.Kind.meaning (templates_of o.read.file) t c.args.r.now) self.table.items c.hold.new.table.items c.hold.result) c.openings.ensures c.hold.ensures.replaced in
    record { whole = still_whole _ _ _ _ _ (replaced tree.term (held_before _ _ self.table.spare 0 tree.term tree.whole.0)) self.whole }

pub returns : goal.returns
returns g c = λ t h.
    let self = c.args.self.now in
    let replaced = subst (λ (o : Openings). (t : Term) → Holds o.read.file (places self.table) 0 t → Replaced o.read.file (residual g.K.Kind.meaning (templates_of o.read.file) t c.args.r.now) self.table.items c.hold.new.table.items c.hold.result) c.openings.ensures c.hold.ensures.replaced in
    let now = replaced t (held_before _ _ self.table.spare 0 t h.0) in
    record {
      foreseen = refl;
      fits = now.fits;
      large = λ many. ((now.large many).0, rw (now.large many).0 at c.hold.ensures.refused);
    }
