use Rattle.std.proofs.Common.{◌≡◌, ◌∙◌, ◌++◌, List, ap}
use Rattle.std.proofs.lemmas.List.{append_assoc}
use Rattle.text_lines.proofs.Firsts.{on_ok}
use Rattle.session_answers.specs.declared.records.Part.{Part}
use Rattle.session_answers.specs.RecordsText.{fault_parts, faulty_part, page_parts}
use Rattle.session_answers.proofs.records.push_fault.Goals as goal

pub returns : goal.returns
returns c =
    let old = c.args.parts.now.items in
    let story = c.args.story.now in
    let page = page_parts story.page story.handover in
    on_ok c.push_page.result (c.push_page.new.parts.items ≡ c.push.new.parts.items ++ page) (c.push_page.new.parts.items ≡ old ++ fault_parts story)
    (λ e. e ∙ ap (λ (t : List Part). t ++ page) c.in_ok-push.ensures ∙ append_assoc old (faulty_part story) page)
    c.push_page.ensures
