use Rattle.std.proofs.Common.{subst, sym, ◌∙◌}
use Rattle.rules.specs.Admissible.{Takes, most_slots}
use Rattle.pagespec.proofs.Canonical.{canonical_taken}
use Rattle.std.specs.Str.{IsAscii}
use Rattle.pagespec.proofs.Ascii.{canonical_ascii}
use Rattle.pagespec.proofs.Joining.{canonical_is}
use Rattle.pagespec.proofs.write.write_spec.Goals as goal

pub ascii_text-requires : goal.ascii_text-requires
ascii_text-requires c =
    subst IsAscii
    (sym (canonical_is c.args.spec.now _ _ _ _ _ c.new-out.ensures.items c.in_ok-append_modulo.ensures c.in_ok-append_groups.ensures c.modulo.ensures.value c.groups.ensures.items))
    (canonical_ascii c.args.spec.now c.modulo.ensures.admissible)

pub returns-clause-taken : goal.returns-clause-taken
returns-clause-taken c =
    subst (λ t. Takes most_slots t c.args.spec.now)
    (sym (c.ascii_text.ensures
    ∙ canonical_is c.args.spec.now _ _ _ _ _ c.new-out.ensures.items c.in_ok-append_modulo.ensures c.in_ok-append_groups.ensures c.modulo.ensures.value c.groups.ensures.items))
    (canonical_taken c.modulo.ensures.admissible.text c.args.spec.now c.modulo.ensures.admissible.taken)
