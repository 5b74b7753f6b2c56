use Rattle.std.proofs.Common.{◌≡◌, sym, ap, ◌∙◌, arith, rules, length}
use Rattle.contract_file.proofs.Linking.{links_none, links_ended, links_more}
use Rattle.contract_file.proofs.links.LinksIterator.next.Goals as goal

pub returns-in_err-self-inside-clause-steps : goal.returns-in_err-self-inside-clause-steps
returns-in_err-self-inside-clause-steps g c =
    let spent : c.self.inside.most ≡ 0 = omega (arith, c.in_err-self-inside.ensures) in
    let gone = sym c.self.view_is ∙ links_none g.L.Link.link_of _ _ _ spent in
    rw c.from_residual.ensures (gone, gone)

pub returns-in_err-link-clause-steps : goal.returns-in_err-link-clause-steps
returns-in_err-link-clause-steps g c =
    let no = sym (c.in_err-link.ensures ∙ ap g.L.Link.link_of c.at.ensures) in
    rw c.from_residual-in_err-link.ensures (sym c.self.view_is ∙ links_ended g.L.Link.link_of _ _ _ no, links_ended g.L.Link.link_of _ _ _ no)

pub returns-clause-steps : goal.returns-clause-steps
returns-clause-steps g c =
    let one = sym (c.in_ok-link.ensures ∙ ap g.L.Link.link_of c.at.ensures) in
    sym c.self.view_is ∙ links_more g.L.Link.link_of _ _ _ _ _ _ (omega (arith, c.in_ok-self-inside.ensures)) one

pub returns-clause-goes : goal.returns-clause-goes
returns-clause-goes g c = let fewer = ap length (returns-clause-steps g c) in search rules
