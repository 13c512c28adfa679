mod BlockLabels
