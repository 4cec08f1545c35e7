use Rattle.std.proofs.Common.{◌∙◌, ap, sym}
use Rattle.recorder_files.specs.Lacks.{lacks, record_count}
use Rattle.session_commands.proofs.lacks.tell_lacks.Goals as goal

pub returns : goal.returns
returns c = λ none.
    let parts = c.in_ok-tell_parts.ensures none in
    let heads = c.in_ok-tell_each.ensures parts.0 in (
      heads.0,
      record {
        heads = sym c.as_slice.ensures.value ∙ heads.1;
        fit = c.in_ok-parts.ensures.fit;
        parts = c.in_ok-parts.parts.items;
        are_parts = c.in_ok-parts.ensures.parts;
        lacks_none = ap lacks (sym c.as_slice-2.ensures.value) ∙ parts.1;
        counted = c.count_records.ensures ∙ ap record_count c.as_slice-3.ensures.value;
      },
    )
