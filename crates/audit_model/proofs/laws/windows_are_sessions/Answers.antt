use Rattle.audit_model.proofs.WindowFits.{contiguous_is_window, window_numbers, fits_through}
use Rattle.audit_model.proofs.WindowSessions.{session_through}
use Rattle.audit_model.proofs.laws.windows_are_sessions.Goals as goal

pub returns : goal.returns
returns c = record {
  contiguous = contiguous_is_window;
  numbering = window_numbers;
  fits = λ s number count is. fits_through number count is s;
  session = λ s number count is. session_through number count is s;
}
