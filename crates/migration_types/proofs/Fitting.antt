-- Fields within the limits, one by one.
use Rattle.std.proofs.Common.{ℕ, List, [], ◌∷◌, Option, Some, None}
use Rattle.std.specs.List.{AllByRecursion}
use Rattle.migration_types.specs.declared.version.Version.{Version}
use Rattle.migration_types.specs.declared.records.LogName.{LogName}
use Rattle.migration_types.specs.declared.records.LogName.TheVariants as log
use Rattle.migration_types.specs.declared.rows.Field.{Field}
use Rattle.migration_types.specs.Extents.{Extent}
use Rattle.migration_types.specs.Sessions.{HasLog}
use Rattle.migration_types.specs.Rows.{Consists}
use Rattle.migration_types.specs.Follow.{WithLog, FieldFits, ContentFits, FieldsFit, RowFits}

fields_fit : (v : Version) (e : Extent) (fs : List Field) (c : Option (List ℕ)) → AllByRecursion (FieldFits v e) fs → ContentFits e c → FieldsFit v e fs c
fields_fit v e [] c all h = h
fields_fit v e (f ∷ []) None all h = all.0
fields_fit v e (f ∷ []) (Some cells) all h = (all.0, h)
fields_fit v e (f ∷ g ∷ fs) c all h = (all.0, fields_fit v e (g ∷ fs) c all.1 h)

fields_back : (v : Version) (e : Extent) (fs : List Field) (c : Option (List ℕ)) → FieldsFit v e fs c → AllByRecursion (FieldFits v e) fs × ContentFits e c
fields_back v e [] c h = (tt, h)
fields_back v e (f ∷ []) None h = ((h, tt), tt)
fields_back v e (f ∷ []) (Some cells) h = ((h.0, tt), h.1)
fields_back v e (f ∷ g ∷ fs) c h = let rest = fields_back v e (g ∷ fs) c h.1 in ((h.0, rest.0), rest.1)

pub with_log : (v : Version) (l : LogName) (Says : Type 0) → HasLog v l → Says → WithLog v l Says
with_log v log.Lane Says has h = (has, h)
with_log v log.Guest Says has h = h
with_log v log.Source Says has h = h
with_log v log.Link Says has h = h
with_log v log.Pager Says has h = h

without_log : (v : Version) (l : LogName) (Says : Type 0) → WithLog v l Says → HasLog v l × Says
without_log v log.Lane Says h = h
without_log v log.Guest Says h = (tt, h)
without_log v log.Source Says h = (tt, h)
without_log v log.Link Says h = (tt, h)
without_log v log.Pager Says h = (tt, h)

pub row_fits : (v : Version) (e : Extent) (l : LogName) (row : Consists) (c : Option (List ℕ)) → HasLog v l → AllByRecursion (FieldFits v e) row.fields → ContentFits e c → RowFits v e l row c
row_fits v e l row c has all h = with_log v l (FieldsFit v e row.fields c) has (fields_fit v e row.fields c all h)

pub row_back : (v : Version) (e : Extent) (l : LogName) (row : Consists) (c : Option (List ℕ)) → RowFits v e l row c → HasLog v l × AllByRecursion (FieldFits v e) row.fields × ContentFits e c
row_back v e l row c h =
    let w = without_log v l (FieldsFit v e row.fields c) h in
    let f = fields_back v e row.fields c w.1 in
    (w.0, f.0, f.1)
