use Rattle.std.proofs.Common.{ℕ, List, ◌++◌, codes, ◌∙◌, ap}
use Rattle.preview.proofs.Chains.{first, more}
use Rattle.preview.proofs.listing.append_flip_edge.Goals as goal

pub returns : goal.returns
returns c =
    let s2 = more _ (first c.args.out.now.items (codes "print on both sides, flip on the ") c.in_ok-extend_from_slice.ensures.items) (c.in_ok-extend_from_slice-2.ensures.items ∙ ap (λ (t : List ℕ). c.extend_from_slice.new.self.items ++ t) c.edge_name.ensures) in
    let s3 = more (codes " edge") s2 c.in_ok-extend_from_slice-3.ensures.items in
    (more (codes "\n") s3 c.in_ok-extend_from_slice-4.ensures.items).is
