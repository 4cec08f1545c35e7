use Rattle.std.proofs.Common.{◌≡◌, List, sym, ap, ◌∙◌, subst}
use Rattle.migration_types.specs.declared.size.Size.{Size}
use Rattle.migration_types.specs.declared.cert.Entry.{Entry}
use Rattle.migration_types.specs.Certs.{IsCert}
use Rattle.migration_types.specs.Extents.{Extent}
use Rattle.cert_maker.specs.inner.Entries.{AreMade}
use Rattle.cert_maker.proofs.Certifying.{made_cert, is_made}
use Rattle.cert_maker.proofs.MorePages.{made_of_all}
use Rattle.cert_maker.proofs.maker.make_over.Goals as goal

pub new-requires : goal.new-requires
new-requires c =
    let s = c.args.session.now in
    let entries = c.from_vec-entries.result in
    let made = subst (λ (xs : List Entry). AreMade s xs) (sym c.from_vec-entries.ensures) (made_of_all s c.args.entries.items c.requires.entries) in
    let is_size = c.size-size.ensures ∙ ap (λ (e : Extent). e.size) c.geometry.ensures in
    subst (λ (size : Size). IsCert (record { version = c.version_for-version.result; size = size; entries = entries; runs = c.args.runs })) (sym is_size)
    (made_cert s c.version_for-version.result entries c.args.runs c.version_for-version.ensures c.keeps_limits.ensures made c.requires.merging c.requires.runs)

pub returns : goal.returns
returns c =
    let s = c.args.session.now in
    let entries = c.from_vec-entries.result in
    let made = subst (λ (xs : List Entry). AreMade s xs) (sym c.from_vec-entries.ensures) (made_of_all s c.args.entries.items c.requires.entries) in
    let is_size = c.size-size.ensures ∙ ap (λ (e : Extent). e.size) c.geometry.ensures in
    let is = subst (λ (size : Size). c.new.result ≡ record { version = c.version_for-version.result; size = size; entries = entries; runs = c.args.runs }) is_size c.new.ensures in
    is_made s c.version_for-version.result entries c.args.runs c.new.result (c.first_version_is_plain.ensures s) c.version_for-version.ensures made c.requires.merging is
