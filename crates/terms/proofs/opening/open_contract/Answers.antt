use Rattle.std.proofs.Common.{◌≡◌, ◌≤◌, length, sym, ap, arith}
use Rattle.kinds.specs.Rows.{zeros}
use Rattle.language.specs.Terms.{nodes}
use Rattle.contract_file.specs.declared.files.File.{File}
use Rattle.terms.specs.Plans.{opens}
use Rattle.terms.proofs.Planning.{contract_told}
use Rattle.terms.proofs.Writing.{retold}
use Rattle.terms.proofs.Joining.{replaced, refused}
use Rattle.terms.proofs.opening.open_contract.Goals as goal

pub returns-then-from-gt-MOST_NODES-clause-replaced : goal.returns-then-from-gt-MOST_NODES-clause-replaced
returns-then-from-gt-MOST_NODES-clause-replaced c =
    let told = contract_told c.args.openings.now c.file.result.now c.at.result c.file.ensures.same c.at.ensures.same zeros c.args.day in
    refused _ _ c.args.out.now.items (omega (arith, told, c.from.ensures, c.if-from-gt-MOST_NODES))

pub returns-clause-replaced : goal.returns-clause-replaced
returns-clause-replaced c =
    let f = c.args.openings.now.read.file in
    let told = contract_told c.args.openings.now c.file.result.now c.at.result c.file.ensures.same c.at.ensures.same zeros c.args.day in
    let small : nodes (opens f zeros c.args.day f.contract) ≤ 256 = omega (arith, told, c.from.ensures, c.if-from-gt-MOST_NODES) in
    let same : opens f zeros c.args.day f.contract ≡ opens f zeros c.args.day c.file.result.now.contract = ap (λ (g : File). opens f zeros c.args.day g.contract) (sym c.file.ensures.same) in
    let empty : length c.clear.new.self.items ≡ 0 = ap length c.clear.ensures in
    replaced f _ _ _ _ c.clear.ensures small (retold f _ _ _ _ same (c.open_clause.ensures (omega (arith, small, ap nodes same, empty))))
