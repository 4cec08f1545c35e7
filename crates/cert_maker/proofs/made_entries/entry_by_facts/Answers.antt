use Rattle.std.proofs.Common.{◌≡◌, Some, sym, ◌∙◌, subst}
use Rattle.migration_types.specs.declared.cert.Entry.{Entry}
use Rattle.audit_model.specs.Certificates.{IsRightEntry}
use Rattle.cert_maker.proofs.Making.{made_right, made_earliest}
use Rattle.cert_maker.proofs.made_entries.entry_by_facts.Goals as goal

pub returns-in_default : goal.returns-in_default
returns-in_default c = λ entry right.
    let made = made_right c.args.session.now c.args.page c.args.facts.now c.requires entry right in
    let is = made.1 in
    let made_none = sym c.entry_of.ensures ∙ c.in_default.is in
    absurd (cc)

pub returns-then-is_right : goal.returns-then-is_right
returns-then-is_right c = record {
  right = c.is_right_entry-is_right.ensures.0 c.if-is_right.true;
  earliest = made_earliest c.args.session.now c.args.page c.args.facts.now c.requires c.in-Some.entry (sym c.entry_of.ensures ∙ c.in-Some.is);
}

pub returns-else-is_right : goal.returns-else-is_right
returns-else-is_right c = λ entry right.
    let made = made_right c.args.session.now c.args.page c.args.facts.now c.requires entry right in
    let some : Some made.0 ≡ Some c.in-Some.entry = sym made.1 ∙ (sym c.entry_of.ensures ∙ c.in-Some.is) in
    let same : made.0 ≡ c.in-Some.entry = cc in
    let passes = c.is_right_entry-is_right.ensures.1 (subst (λ (x : Entry). IsRightEntry c.args.session.now c.args.page x) same made.2) in
    let fails = c.if-is_right.false in
    absurd (cc)
