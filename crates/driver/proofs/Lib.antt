mod OpenCount
