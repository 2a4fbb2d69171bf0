use Rattle.std.proofs.Common.{◌++◌, ◌∙◌, Bool, List, ℕ, ap, sym}
use Rattle.std.specs.Prelude.{None, Some, codes, if◌then◌else◌}
use Rattle.std.proofs.lemmas.Result.{on_ok_weaker}
use Rattle.impose_messages.proofs.Pieces.{if_ok, three}
use Rattle.impose_messages.specs.Said.{home_message, line_of, shown_name}
use Rattle.impose_messages.proofs.run_lines.push_home_line.Goals as goal

pub returns : goal.returns
returns c =
    let old : List ℕ = c.args.said.now.items in
    let name : List ℕ = shown_name c.args.paper_size.now in
    on_ok_weaker c.extend_from_slice-2.result
    (λ last.
    three old (codes "impose: ") (home_message name) (codes "\n") _ _ _ c.in_ok-extend_from_slice.ensures.items
    (c.in_ok-push_home.ensures ∙ ap (λ (shown : List ℕ). c.extend_from_slice.new.self.items ++ home_message shown) c.of.ensures) last
    ∙ ap (λ (unknown : Bool). old ++ line_of (if unknown then Some (home_message name) else None)) (sym c.if-not-names_unknown.false ∙ c.names_unknown.ensures))
    (if_ok c.extend_from_slice-2.result _ _ _ c.extend_from_slice-2.ensures.items)
