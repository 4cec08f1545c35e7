-- The marks of records in a picture.
use Rattle.std.specs.Prelude.{ℕ, Bool, false, Option, Some, None, ◌==◌, ◌&&◌, if◌then◌else◌}
use Rattle.migration_types.specs.Receipts.{Name}
use Rattle.migration_types.specs.Sessions.{Recorded}
use Rattle.audit_model.specs.Names.{same_log}
use Rattle.session_story.specs.Subjects.{page_of}
use Rattle.order_picture.specs.declared.focus.Focus.{Focus}
use Rattle.order_picture.specs.declared.focus.Mark.{Mark}
use Rattle.order_picture.specs.declared.focus.Mark.TheVariants.{Faulty, OwnCause, Cause, Against, OfPage, Plain}

-- whether the name is this one, if there is one
abbrev pub is_one : Option Name → Name → Bool
is_one None name = false
is_one (Some one) name = same_log one.0 name.0 && one.1 == name.1

-- whether both are the same page
abbrev pub is_page : Option ℕ → Option ℕ → Bool
is_page None other = false
is_page (Some page) None = false
is_page (Some page) (Some other) = page == other

-- the mark of the faulty record: whether it is also the cause
abbrev pub fault_mark : Focus → Name → Mark
fault_mark focus name = if is_one focus.cause name then OwnCause else Faulty

-- the mark of a record
abbrev pub mark_of : Recorded → Focus → Name → Mark
mark_of s focus name =
    if is_one focus.fault name then fault_mark focus name
    else if is_one focus.cause name then Cause
    else if is_one focus.against name then Against
    else if is_page focus.page (page_of s name) then OfPage
    else Plain
