-- A contract that is small enough is opened, and held whole.
use Rattle.std.proofs.Common.{◌≡◌, ℕ, ◌≤◌, List, Ok, Result, subst}
use Rattle.language.specs.Terms.{nodes}
use Rattle.openings.specs.declared.known.Openings.{Openings}
use Rattle.terms.specs.declared.nodes.Node.{Node}
use Rattle.terms.specs.declared.too_large.TooLarge.{TooLarge}
use Rattle.terms.specs.Results.{Replaced}
use Rattle.answers.specs.Approving.{contract_opened}
use Rattle.terms.specs.Tables.{Whole}

pub opened_whole : (o own : Openings) (d day : ℕ) (before after : List Node) (r : Result (Unit {0}) TooLarge) → o ≡ own → d ≡ day
    → Replaced o.read.file (contract_opened o.read.file d) before after r → nodes (contract_opened own.read.file day) ≤ 256
    → (r ≡ Ok tt) × Whole own.read.file after (contract_opened own.read.file day)
opened_whole o own d day before after r same on replaced small =
    (subst (λ (x : Openings). Replaced x.read.file (contract_opened x.read.file day) before after r) same
    (subst (λ (x : ℕ). Replaced o.read.file (contract_opened o.read.file x) before after r) on replaced)
    ).fits small
