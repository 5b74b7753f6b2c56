-- From what is written into an empty table to the table that takes over.
use Rattle.std.proofs.Common.{◌≡◌, ◌<◌, ◌≤◌, List, [], Ok, Err, refl, subst, arith}
use Rattle.language.specs.Terms.{Term, nodes}
use Rattle.contract_file.specs.declared.files.File.{File}
use Rattle.terms.specs.declared.nodes.Node.{Node}
use Rattle.terms.specs.Tables.{Wrote}
use Rattle.terms.specs.Results.{Replaced}
use Rattle.terms.proofs.Writing.{longer}

module _ (f : File) (t : Term) (before : List Node) where
  pub replaced : (new after : List Node) → new ≡ [] → nodes t ≤ 256 → Wrote f new after t → Replaced f t before after (Ok tt)
  replaced new after e small w =
      let x : Wrote f [] after t = subst (λ (ns : List Node). Wrote f ns after t) e w in
      record { fits = λ _. (refl, (x.held, omega (arith, longer f [] after t x))); large = λ h. absurd (omega arith) }

  pub refused : 256 < nodes t → Replaced f t before before (Err (record {}))
  refused large = record { fits = λ h. absurd (omega arith); large = λ _. (refl, refl) }
