-- All the examples that are proved, as one statement.
use Rattle.examples.specs.Forms.{FormExamples}
use Rattle.examples.specs.SmallTypes.{SmallTypes}
use Rattle.examples.specs.Books.{BookExamples}

pub record Examples : Type 0 where
  pub forms : FormExamples
  pub small : SmallTypes
  pub books : BookExamples
