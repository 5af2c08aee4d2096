-- What a node knows of its children.
--     Summarizes                     this is known of some elements
--     Knows                          what a node holds knows its children
--     IsSameData                     what a node holds is the same as what another one holds
--     HasKept                        it has the same kind and the same children
--     HasSpliced                     it holds these in the place of some children
--     IsExchanged                    some elements stand where others stood, and what is known of both, and was of all
use Rattle.std.specs.Prelude.{◌≡◌, ◌+◌, ℕ, List, ◌++◌, take, drop}
use Rattle.green_tree.specs.inner.CappedLength.{IsCappedLength}
use Rattle.green_tree.specs.inner.HasToken.{TellsToken}
use Rattle.green_tree.specs.declared.green.GreenElement.{GreenElement}
use Rattle.green_tree.specs.declared.green.NodeData.{NodeData}
use Rattle.green_tree.specs.declared.green.summary.Summary.{Summary}

pub record Summarizes (es : List GreenElement) (s : Summary) : Type 0 where
  pub length : IsCappedLength es s.length
  pub token : TellsToken es s.has_token

abbrev pub Knows : NodeData → Type 0
Knows d = Summarizes d.children.items d.summary

abbrev pub IsSameData : NodeData → NodeData → Type 0
IsSameData a b = (b.kind ≡ a.kind) × (b.summary ≡ a.summary) × (b.children.items ≡ a.children.items)

abbrev pub HasKept : NodeData → NodeData → Type 0
HasKept a b = (b.kind ≡ a.kind) × (b.children.items ≡ a.children.items)

abbrev pub HasSpliced : NodeData → NodeData → ℕ → ℕ → List GreenElement → Type 0
HasSpliced a b first count new = (b.kind ≡ a.kind) × (b.children.items ≡ take first a.children.items ++ new ++ drop (first + count) a.children.items)

pub record IsExchanged (es : List GreenElement) (all removed added : Summary) : Type 0 where
  pub left : List GreenElement
  pub gone : List GreenElement
  pub come : List GreenElement
  pub right : List GreenElement
  pub now : es ≡ left ++ come ++ right
  pub knew : Summarizes (left ++ gone ++ right) all
  pub knew_gone : Summarizes gone removed
  pub knew_come : Summarizes come added
