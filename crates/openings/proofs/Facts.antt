-- What a table tells of openings is a fact: what the type of openings hides can be taken out again.
use Rattle.std.proofs.Common.{List}
use mathlib.Core.Logic.{∥∥₁_elim}
use mathlib.Core.HLevel.{Π_prop}
use denote.Struct.Props.{≡_prop}
use Rattle.contract_file.specs.declared.files.File.{File}
use Rattle.openings.specs.declared.shapes.Shape.{Shape}
use Rattle.openings.specs.contracts.shapes.Shape as shape-code
use Rattle.openings.specs.Shapes.{Known}

pub known_openings : (f : File) (shapes : List Shape) → ∥ Known f shapes ∥₁ → Known f shapes
known_openings f shapes known = ∥∥₁_elim known (Π_prop (λ i. Π_prop (λ row. Π_prop (λ base. ≡_prop (shape-code.the_row).coded _ _)))) (λ k. k)
