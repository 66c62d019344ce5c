-- What distinguishes the rows of a layer: their points, and their heads.
use Rattle.std.specs.Prelude.{◌≡◌, ◌≢◌, ◌<◌, ℕ, List, [], length, map, get_or, slice_index}
use Rattle.report_frame.specs.declared.version.Version.TheVariants.{One}
use Rattle.report_frame.specs.declared.head.Head.{Head}
use Rattle.adss_commit.specs.declared.context.Derived.{Derived}
use Rattle.adss_commit.specs.Derivation.{derived, context_head}
use Rattle.nest_client.specs.Report.{client_of, coins, point_of}
use Rattle.table_law.specs.Prefixes.{Values}
use Rattle.table_law.specs.Layers.{check_before, layer_context}

-- these are the points of the layers of each of so many clients
abbrev pub ArePoints : List ℕ → (rows layers : ℕ) → List (List ℕ) → Type 0
ArePoints seed rows layers points =
    (length points ≡ rows) × ((e i l : ℕ) → i < rows → l < layers → slice_index (get_or points i []) l ≡ point_of (coins (client_of One e seed i) l))

-- no two rows with the same first one have the same point in the layer
abbrev pub PointsDiffer : List (List ℕ) → ℕ → List ℕ → Type 0
PointsDiffer points l firsts = (i j : ℕ) → i < j → j < length firsts → slice_index firsts i ≡ slice_index firsts j →
    slice_index (get_or points i []) l ≢ slice_index (get_or points j []) l

-- the check of the layer before layer l, for each row
unfoldable pub checks_before : ℕ → List ℕ → ℕ → List Values → List (List ℕ)
checks_before e ks l table = map (check_before e ks l) table

-- what is derived from the context of layer l, for each row
unfoldable pub derived_at : ℕ → List ℕ → ℕ → List Values → List Derived
derived_at e ks l table = map (λ row. derived (layer_context e ks l row)) table

-- the head of row i in layer l
abbrev pub row_head : ℕ → List ℕ → ℕ → List Values → ℕ → Head
row_head e ks l table i = context_head (layer_context e ks l (get_or table i []))

-- no two first ones of their fronts have the same head in the layer, if the rows before it have the same first one
abbrev pub HeadsDiffer : ℕ → List ℕ → ℕ → List Values → (firsts longer : List ℕ) → Type 0
HeadsDiffer e ks l table firsts longer = (i j : ℕ) → i < j → j < length table → slice_index longer i ≡ i → slice_index longer j ≡ j →
    slice_index firsts i ≡ slice_index firsts j → row_head e ks l table i ≢ row_head e ks l table j
