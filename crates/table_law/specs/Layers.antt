-- The report that a row's client sends, layer by layer.
use Rattle.std.specs.Prelude.{ℕ, zero, suc, List, [], drop, get_or, replicate, slice_index}
use Rattle.report_frame.specs.Frame.{Fields}
use Rattle.report_frame.specs.declared.version.Version.TheVariants.{One}
use Rattle.report_frame.specs.declared.limits.TheConstants.{CHECK_BYTES}
use Rattle.adss_commit.specs.declared.context.Context.{Context}
use Rattle.adss_commit.specs.Derivation.{context_check}
use Rattle.nest_client.specs.Report.{client_of, layer, plain_body}
use Rattle.table_law.specs.Prefixes.{Values, value_at}

-- the check of the context of the layer before layer l, and zeros at layer 0
unfoldable pub check_before : ℕ → List ℕ → ℕ → Values → List ℕ
check_before e ks zero row = replicate CHECK_BYTES 0
check_before e ks (suc l) row =
    context_check (record { version = One; parent = check_before e ks l row; epoch = e; level = l; k = slice_index ks l; value = value_at row l })

-- the context of layer l
abbrev pub layer_context : ℕ → List ℕ → ℕ → Values → Context
layer_context e ks l row = record { version = One; parent = check_before e ks l row; epoch = e; level = l; k = slice_index ks l; value = value_at row l }

-- the plain body of layer l of client i's report
abbrev pub layer_body : ℕ → List ℕ → List ℕ → ℕ → ℕ → Values → List ℕ
layer_body e seed ks l i row = plain_body (client_of One e seed i) [] (suc l) (context_check (layer_context e ks l row)) (drop (suc l) row) (drop (suc l) ks)

-- layer l of client i's report of the row
unfoldable pub layer_report : ℕ → List ℕ → List ℕ → ℕ → ℕ → Values → Fields
layer_report e seed ks l i row = layer (client_of One e seed i) 0 (layer_context e ks l row) (layer_body e seed ks l i row)

-- layer l of the report of row i, which client i sends
abbrev pub row_report : List Values → List ℕ → ℕ → List ℕ → ℕ → ℕ → Fields
row_report table ks e seed l i = layer_report e seed ks l i (get_or table i [])
