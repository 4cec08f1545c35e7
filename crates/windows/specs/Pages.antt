-- The pages of a window.
use Rattle.audit_model.specs.Windows.{Numbers, numbers_from}
use Rattle.windows.specs.declared.pages.Window.{Window}

-- the number of each page in the window
abbrev pub numbers_of : Window → Numbers
numbers_of window = numbers_from window.first window.count
